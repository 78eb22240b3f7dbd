-- The rows of a frame are sent.
use Rattle.std.proofs.Common.{◌≡◌, ℕ, zero, suc, ◌+◌, ◌<◌, ◌≤◌, Bool, true, false, ◌&&◌, ◌==◌, List, [], ◌∷◌, ◌++◌, length, cond, get_or, refl, sym, ap, subst, ◌∙◌, inl, inr, ◌⊎◌, arith}
use Rattle.std.specs.Prelude.{nat_lt, Option, None, Some}
use Rattle.std.proofs.lemmas.Bool.{and_from, cond-true, lt-ltb}
use Rattle.tui_cells.specs.Buffer.{IsScreen, Screen}
use Rattle.tui_cells.specs.Cell.{Look}
use Rattle.tui_cells.specs.declared.attributes.Attributes.{Attributes}
use Rattle.tui_cells.specs.declared.color.Color.{Color}
use Rattle.tui_cells.specs.contracts.attributes.AttributesPartialEq as attributes
use Rattle.tui_text.specs.Visible.{PlacedCell, step_of}
use Rattle.tui_terminal_model.specs.declared.cursor.Cursor.{Cursor}
use Rattle.tui_terminal_model.specs.declared.cursor.Cursor.TheVariants.{Keep, Hidden, At as AtPlace}
use Rattle.tui_terminal_model.specs.declared.depth.Depth.{Depth}
use Rattle.tui_terminal_model.specs.declared.output.Output.{Output}
use Rattle.tui_terminal_model.specs.Calls.{Keeps}
use Rattle.tui_terminal_model.specs.Colours.{color_at}
use Rattle.tui_terminal_model.specs.Pens.{adds_of, attributes_of, only_adds, first_pen, has_name, paints_of, pen_of}
use Rattle.tui_terminal_model.specs.Pieces.{pieces, row_pieces}
use Rattle.tui_terminal_model.specs.Sends.{IsAdded, IsFrame, IsMove, IsPaint, IsSafe, Sends, SendsRows, closing, cursor_commands, opening}
use Rattle.tui_terminal_model.specs.Shows.{HasCursor, HasRoom, IsCursorInside, KnowsAll, ShowsCell, KnowsWidths}
use Rattle.tui_terminal_model.specs.Terminal.{Command, Pen, Shown, Spot, Tty, across, synchronizing, place, print, run, set_mode, visible}
use Rattle.tui_terminal_laws.specs.declared.at.At.{At}
use Rattle.tui_terminal_laws.specs.Sent.{row_shown}
use Rattle.tui_terminal_laws.specs.Sending.{frame, moves, next_at, nothing_known, paints, repaints, send, send_one, send_rows}
use Rattle.tui_terminal_laws.proofs.Adding.{adds_safe, back_safe}
use Rattle.tui_terminal_laws.proofs.Apart.{send_split}
use Rattle.tui_terminal_laws.proofs.Lists.{Each, Each-append, Each-weaker, In, In-to}
use Rattle.tui_terminal_laws.proofs.Pen.{first_is, pen_from, run_append, steps}
use Rattle.tui_terminal_laws.proofs.Rows.{AreSent, Knows, all_sent, in_beside, in_fit, nowhere_at}
use Rattle.tui_terminal_laws.proofs.Steps.{Stays, stays, stays_on}
use Rattle.tui_terminal_laws.proofs.Walks.{IsFit}

-- a row shows what its own cells draw, whatever is sent before and after
pub record RowFrom (knows : List ℕ → Bool) (o : Output) (ps : List PlacedCell) (r : ℕ) (t u : Tty) : Type 0 where
  pub before : Tty
  pub modes_reset : before.modes_reset ≡ true
  pub whole : before.whole ≡ true
  pub columns : before.columns ≡ t.columns
  pub height : before.height ≡ t.height
  pub same : before.cells r ≡ t.cells r
  pub made : u.cells r ≡ (run knows (send o r nothing_known ps) before).cells r

pub record AreRows (knows : List ℕ → Bool) (o : Output) (pss : List (List PlacedCell)) (y : ℕ) (t u : Tty) : Type 0 where
  pub same : Stays t u
  pub others : (r : ℕ) → (r < y) ⊎ (y + length pss ≤ r) → u.cells r ≡ t.cells r
  pub rows : (k : ℕ) → k < length pss → RowFrom knows o (get_or pss k []) (y + k) t u

-- the first row, and one of the others
row_at : (knows : List ℕ → Bool) (o : Output) (ps : List PlacedCell) (pss : List (List PlacedCell)) (y : ℕ) (t u end : Tty) → t.modes_reset ≡ true → t.whole ≡ true →
    u ≡ run knows (send o y nothing_known ps) t → AreSent knows o y nothing_known ps t u → AreRows knows o pss (y + 1) u end →
    (k : ℕ) → k < length (ps ∷ pss) → RowFrom knows o (get_or (ps ∷ pss) k []) (y + k) t end
row_at knows o ps pss y t u end modes_reset whole is one more zero lt =
    let here : y ≡ y + 0 = omega arith in
    let first : RowFrom knows o ps y t end = record {
      before = t;
      modes_reset = modes_reset;
      whole = whole;
      columns = refl;
      height = refl;
      same = refl;
      made = more.others y (inl (omega arith)) ∙ ap (λ (v : Tty). v.cells y) is;
    } in
    subst (λ r. RowFrom knows o ps r t end) here first
row_at knows o ps pss y t u end modes_reset whole is one more (suc k) lt =
    let there : y + 1 + k ≡ y + suc k = omega arith in
    let row = more.rows k (omega arith) in
    let later : RowFrom knows o (get_or pss k []) (y + 1 + k) t end = record {
      before = row.before;
      modes_reset = row.modes_reset;
      whole = row.whole;
      columns = row.columns ∙ one.same.columns;
      height = row.height ∙ one.same.height;
      same = row.same ∙ one.others (y + 1 + k) (λ e. absurd (omega arith));
      made = row.made;
    } in
    subst (λ r. RowFrom knows o (get_or pss k []) r t end) there later

pub rows_run : (knows : List ℕ → Bool) (o : Output) (pss : List (List PlacedCell)) (y : ℕ) (t : Tty) → KnowsWidths o.widths knows → t.whole ≡ true → t.modes_reset ≡ true →
    y + length pss ≤ t.height → Each (Each (IsFit o.widths t.columns)) pss → AreRows knows o pss y t (run knows (send_rows o y pss) t)
unfolding send_rows
rows_run knows o [] y t knows_widths whole modes_reset high fit = record { same = stays t; others = λ r away. refl; rows = λ k lt. absurd (omega arith) }
rows_run knows o (ps ∷ pss) y t knows_widths whole modes_reset high fit =
    let u : Tty = run knows (send o y nothing_known ps) t in
    let one : AreSent knows o y nothing_known ps t u = all_sent knows o y nothing_known ps t knows_widths whole modes_reset (omega arith) fit.0 (nowhere_at o y t) in
    let tall = one.same.height in
    let high_then : y + 1 + length pss ≤ u.height = omega (arith, tall) in
    let fit_then : Each (Each (IsFit o.widths u.columns)) pss = subst (λ k. Each (Each (IsFit o.widths k)) pss) (sym one.same.columns) fit.1 in
    let end : Tty = run knows (send_rows o (y + 1) pss) u in
    let more : AreRows knows o pss (y + 1) u end = rows_run knows o pss (y + 1) u knows_widths (one.same.whole ∙ whole) (one.same.modes_reset ∙ modes_reset) high_then fit_then in
    let done : AreRows knows o (ps ∷ pss) y t end = record {
      same = stays_on t u end one.same more.same;
      others = λ r away. elim away [
        | inl above ↦ more.others r (inl (omega arith)) ∙ one.others r (λ e. absurd (omega arith))
        | inr below ↦ more.others r (inr (omega arith)) ∙ one.others r (λ e. absurd (omega arith))
      ];
      rows = row_at knows o ps pss y t u end modes_reset whole refl one more;
    } in
    subst (AreRows knows o (ps ∷ pss) y t) (sym (run_append knows (send o y nothing_known ps) _ t)) done

-- ---- before and after the rows

-- the cells stay, and so does everything but synchronized output and the cursor
pub record IsStill (t u : Tty) : Type 0 where
  pub cells : u.cells ≡ t.cells
  pub modes_reset : u.modes_reset ≡ t.modes_reset
  pub whole : u.whole ≡ t.whole
  pub columns : u.columns ≡ t.columns
  pub height : u.height ≡ t.height

still : (t : Tty) → IsStill t t
still t = record { cells = refl; modes_reset = refl; whole = refl; columns = refl; height = refl }

opened : (knows : List ℕ → Bool) (on : Bool) (t : Tty) → t.whole ≡ true → IsStill t (run knows (cond on (set_mode synchronizing true ∷ []) []) t)
opened knows true t whole = subst (IsStill t) (sym (steps knows (set_mode synchronizing true) t whole)) (record { cells = refl; modes_reset = refl; whole = refl; columns = refl; height = refl })
opened knows false t whole = still t

-- the cursor, and synchronized output
pub record IsClosed (cursor : Cursor) (on : Bool) (t u : Tty) : Type 0 where
  pub same : IsStill t u
  pub at_cursor : HasCursor cursor u
  pub freed : u.synchronizing ≡ cond on (Some false) t.synchronizing

closed_synchronized : (knows : List ℕ → Bool) (cursor : Cursor) (on : Bool) (t u : Tty) → u.whole ≡ true → IsStill t u → HasCursor cursor u → u.synchronizing ≡ t.synchronizing →
    IsClosed cursor on t (run knows (cond on (set_mode synchronizing false ∷ []) []) u)
closed_synchronized knows Keep true t u whole same has was =
    subst (IsClosed Keep true t) (sym (steps knows (set_mode synchronizing false) u whole))
    (record { same = record { cells = same.cells; modes_reset = same.modes_reset; whole = same.whole; columns = same.columns; height = same.height }; at_cursor = has; freed = refl })
closed_synchronized knows Hidden true t u whole same has was =
    subst (IsClosed Hidden true t) (sym (steps knows (set_mode synchronizing false) u whole))
    (record { same = record { cells = same.cells; modes_reset = same.modes_reset; whole = same.whole; columns = same.columns; height = same.height }; at_cursor = has; freed = refl })
closed_synchronized knows (AtPlace p) true t u whole same has was =
    subst (IsClosed (AtPlace p) true t) (sym (steps knows (set_mode synchronizing false) u whole))
    (record { same = record { cells = same.cells; modes_reset = same.modes_reset; whole = same.whole; columns = same.columns; height = same.height }; at_cursor = has; freed = refl })
closed_synchronized knows cursor false t u whole same has was = record { same = same; at_cursor = has; freed = was }

-- the cursor lies on the terminal
abbrev pub OnTerminal : Cursor → Tty → Type 0
OnTerminal Keep t = Unit {0}
OnTerminal Hidden t = Unit {0}
OnTerminal (AtPlace p) t = (p.x < t.columns) × (p.y < t.height)

pub on_terminal : (cursor : Cursor) (b : Screen) (t : Tty) → IsCursorInside cursor b → HasRoom t b → OnTerminal cursor t
on_terminal Keep b t is room = tt
on_terminal Hidden b t is room = tt
on_terminal (AtPlace p) b t is room = (omega (arith, is.right, room.wide), omega (arith, is.below, room.high))

abbrev placed : (x y : ℕ) → Tty → Tty
placed x y t = record t { cursor = Some (record { column = x; row = y }); visible = Some true }

cursor_set : (knows : List ℕ → Bool) (x y : ℕ) (t : Tty) → t.whole ≡ true → t.modes_reset ≡ true → x < t.columns → y < t.height →
    run knows (place x y ∷ set_mode visible true ∷ []) t ≡ placed x y t
cursor_set knows x y t whole modes_reset wide high =
    let on : (t.modes_reset && (nat_lt x t.columns && nat_lt y t.height)) ≡ true =
    and_from t.modes_reset _ modes_reset (and_from (nat_lt x t.columns) (nat_lt y t.height) (lt-ltb x t.columns wide) (lt-ltb y t.height high)) in
    let first = steps knows (place x y) t whole ∙ ap (λ (c : Option Spot). record t { cursor = c }) (cond-true _ (Some (record { column = x; row = y })) None on) in
    ap (run knows (set_mode visible true ∷ [])) first ∙ steps knows (set_mode visible true) (record t { cursor = Some (record { column = x; row = y }) }) whole

pub closed : (knows : List ℕ → Bool) (cursor : Cursor) (on : Bool) (t : Tty) → t.whole ≡ true → t.modes_reset ≡ true → OnTerminal cursor t →
    IsClosed cursor on t (run knows (cursor_commands cursor ++ cond on (set_mode synchronizing false ∷ []) []) t)
closed knows Keep on t whole modes_reset is = closed_synchronized knows Keep on t t whole (still t) tt refl
closed knows Hidden on t whole modes_reset is =
    let u : Tty = record t { visible = Some false } in
    let same : IsStill t u = record { cells = refl; modes_reset = refl; whole = refl; columns = refl; height = refl } in
    subst (λ (v : Tty). IsClosed Hidden on t (run knows (cond on (set_mode synchronizing false ∷ []) []) v)) (sym (steps knows (set_mode visible false) t whole))
    (closed_synchronized knows Hidden on t u whole same refl refl)
closed knows (AtPlace p) on t whole modes_reset is =
    let u : Tty = placed p.x p.y t in
    let same : IsStill t u = record { cells = refl; modes_reset = refl; whole = refl; columns = refl; height = refl } in
    subst (λ (v : Tty). IsClosed (AtPlace p) on t (run knows (cond on (set_mode synchronizing false ∷ []) []) v)) (sym (cursor_set knows p.x p.y t whole modes_reset is.0 is.1))
    (closed_synchronized knows (AtPlace p) on t u whole same (refl, refl) refl)

-- ---- a frame

pub record FrameRun (knows : List ℕ → Bool) (o : Output) (cursor : Cursor) (pss : List (List PlacedCell)) (y : ℕ) (t u : Tty) : Type 0 where
  pub modes_reset : u.modes_reset ≡ true
  pub whole : u.whole ≡ true
  pub columns : u.columns ≡ t.columns
  pub height : u.height ≡ t.height
  pub freed : t.synchronizing ≡ Some false → u.synchronizing ≡ Some false
  pub at_cursor : HasCursor cursor u
  pub others : (r : ℕ) → (r < y) ⊎ (y + length pss ≤ r) → u.cells r ≡ t.cells r
  pub rows : (k : ℕ) → k < length pss → RowFrom knows o (get_or pss k []) (y + k) t u

on_still : (cursor : Cursor) (t u : Tty) → u.columns ≡ t.columns → u.height ≡ t.height → OnTerminal cursor t → OnTerminal cursor u
on_still Keep t u a b is = tt
on_still Hidden t u a b is = tt
on_still (AtPlace p) t u a b is = (subst (λ k. p.x < k) (sym a) is.0, subst (λ k. p.y < k) (sym b) is.1)

freed_by : (knows : List ℕ → Bool) (on : Bool) (t v w u : Tty) → v ≡ run knows (cond on (set_mode synchronizing true ∷ []) []) t → w.synchronizing ≡ v.synchronizing → u.synchronizing ≡ cond on (Some false) w.synchronizing →
    t.synchronizing ≡ Some false → u.synchronizing ≡ Some false
freed_by knows true t v w u first rows end was = end
freed_by knows false t v w u first rows end was = end ∙ rows ∙ ap (λ (k : Tty). k.synchronizing) first ∙ was

pub frame_run : (knows : List ℕ → Bool) (o : Output) (cursor : Cursor) (pss : List (List PlacedCell)) (y : ℕ) (t : Tty) → KnowsWidths o.widths knows → t.whole ≡ true → t.modes_reset ≡ true →
    y + length pss ≤ t.height → Each (Each (IsFit o.widths t.columns)) pss → OnTerminal cursor t → FrameRun knows o cursor pss y t (run knows (frame o cursor y pss) t)
frame_run knows o cursor pss y t knows_widths whole modes_reset high fit on =
    let v : Tty = run knows (opening o) t in
    let first : IsStill t v = opened knows o.synchronized t whole in
    let tall = first.height in
    let whole_v : v.whole ≡ true = first.whole ∙ whole in
    let tamed_v : v.modes_reset ≡ true = first.modes_reset ∙ modes_reset in
    let w : Tty = run knows (send_rows o y pss) v in
    let rows : AreRows knows o pss y v w =
    rows_run knows o pss y v knows_widths whole_v tamed_v (omega (arith, tall)) (subst (λ k. Each (Each (IsFit o.widths k)) pss) (sym first.columns) fit) in
    let u : Tty = run knows (closing o cursor) w in
    let end : IsClosed cursor o.synchronized w u =
    closed knows cursor o.synchronized w (rows.same.whole ∙ whole_v) (rows.same.modes_reset ∙ tamed_v) (on_still cursor t w (rows.same.columns ∙ first.columns) (rows.same.height ∙ first.height) on) in
    let done : FrameRun knows o cursor pss y t u = record {
      modes_reset = end.same.modes_reset ∙ rows.same.modes_reset ∙ tamed_v;
      whole = end.same.whole ∙ rows.same.whole ∙ whole_v;
      columns = end.same.columns ∙ rows.same.columns ∙ first.columns;
      height = end.same.height ∙ rows.same.height ∙ first.height;
      freed = freed_by knows o.synchronized t v w u refl rows.same.synchronizing end.freed;
      at_cursor = end.at_cursor;
      others = λ r away. ap (λ (c : ℕ → ℕ → Shown). c r) end.same.cells ∙ rows.others r away ∙ ap (λ (c : ℕ → ℕ → Shown). c r) first.cells;
      rows = λ k lt.
          let row = rows.rows k lt in
          record {
            before = row.before;
            modes_reset = row.modes_reset;
            whole = row.whole;
            columns = row.columns ∙ first.columns;
            height = row.height ∙ first.height;
            same = row.same ∙ ap (λ (c : ℕ → ℕ → Shown). c (y + k)) first.cells;
            made = ap (λ (c : ℕ → ℕ → Shown). c (y + k)) end.same.cells ∙ row.made;
          };
    } in
    subst (FrameRun knows o cursor pss y t) (sym (run_append knows (opening o) (send_rows o y pss ++ closing o cursor) t ∙ run_append knows (send_rows o y pss) (closing o cursor) v)) done

-- ---- what a frame leaves unchanged

row_beside : (knows : List ℕ → Bool) (o : Output) (y left : ℕ) (row : List Look) (xs : List PlacedCell) (t : Tty) (p : PlacedCell) → KnowsWidths o.widths knows → t.whole ≡ true → t.modes_reset ≡ true →
    y < t.height → left + length row ≤ t.columns → Each (λ q. In q (pieces left (row_shown o.widths row))) xs → KnowsAll knows (pieces left (row_shown o.widths row)) →
    (p.column + step_of p.cell.symbol ≤ left) ⊎ (left + length row ≤ p.column) → ShowsCell o.depth (t.cells y) p → ShowsCell o.depth ((run knows (send o y nothing_known xs) t).cells y) p
row_beside knows o y left row xs t p knows_widths whole modes_reset high le within every away stood =
    let ps = pieces left (row_shown o.widths row) in
    let done = all_sent knows o y nothing_known xs t knows_widths whole modes_reset high (in_fit o.widths left t.columns row xs le within) (nowhere_at o y t) in
    let known : Each (Knows knows) xs = Each-weaker (λ q. In q ps) (Knows knows) (λ q h. every q (In-to q ps h)) xs within in
    done.shows_cell p (in_beside o.widths left row xs p away within) known (inl stood)

pub frame_keeps : (knows : List ℕ → Bool) (o : Output) (cursor : Cursor) (b : Screen) (pss : List (List PlacedCell)) (t u : Tty) → IsScreen b → KnowsWidths o.widths knows → HasRoom t b →
    length pss ≡ length b.rows → ((y : ℕ) → y < length b.rows → Each (λ p. In p (row_pieces o.widths b y)) (get_or pss y [])) →
    FrameRun knows o cursor pss b.area.y t u → Keeps o knows b t u
frame_keeps knows o cursor b pss t u is knows_widths room len within all = record {
  outside = λ r away. all.others r (elim away [ inl above ↦ inl above | inr below ↦ inr (omega (arith, is.high, len)) ]);
  beside = λ y lt every p away stood.
      let row = all.rows y (omega (arith, len)) in
      let v = row.before in
      let cells = get_or b.rows y [] in
      let r = b.area.y + y in
      let wide : length cells ≡ b.area.width = is.wide y [] lt in
      let high : r < v.height = omega (arith, row.height, room.high, is.high) in
      let fits : b.area.x + length cells ≤ v.columns = omega (arith, row.columns, room.wide, wide) in
      let stood_then : ShowsCell o.depth (v.cells r) p = subst (λ (c : ℕ → Shown). ShowsCell o.depth c p) (sym row.same) stood in
      let away_then : (p.column + step_of p.cell.symbol ≤ b.area.x) ⊎ (b.area.x + length cells ≤ p.column) = elim away [ inl before ↦ inl before | inr past ↦ inr (omega (arith, wide)) ] in
      subst (λ (c : ℕ → Shown). ShowsCell o.depth c p) (sym row.made)
      (row_beside knows o r b.area.x cells (get_or pss y []) v p knows_widths row.whole row.modes_reset high fits (within y lt) every away_then stood_then);
}

-- ---- each cell, with its move and its pen before it

is_move : (b c : Bool) (y : ℕ) (p : PlacedCell) → IsMove y p (cond b [] (cond c (across p.column ∷ []) (place p.column y ∷ [])))
is_move true c y p = inl refl
is_move false true y p = inr (inl refl)
is_move false false y p = inr (inr refl)

is_repaint : (b : Bool) (from pen : Pen) → only_adds from pen ≡ b →
    (cond b (adds_of from pen) (paints_of pen) ≡ paints_of pen) ⊎ IsAdded pen (cond b (adds_of from pen) (paints_of pen))
is_repaint true from pen adds = inr (from, adds, refl)
is_repaint false from pen takes = inl refl

is_paint : (b c : Bool) (depth : Depth) (from : Pen) (p : PlacedCell) →
    IsPaint depth p (cond b [] (cond c (repaints from (pen_of depth (attributes_of p.cell))) (paints_of (pen_of depth (attributes_of p.cell)))))
is_paint true c depth from p = inl refl
is_paint false true depth from p = let pen = pen_of depth (attributes_of p.cell) in inr (is_repaint (only_adds from pen) from pen refl)
is_paint false false depth from p = inr (inl refl)

sends : (o : Output) (y : ℕ) (at : At) (ps : List PlacedCell) → Sends o.depth y ps (send o y at ps)
unfolding send
sends o y at [] = refl
sends o y at (p ∷ ps) = record {
  moves = moves y at p;
  paints = paints o.depth at p;
  more = send o y (next_at o.widths p) ps;
  is_move = is_move (at.placed && (at.column == p.column)) (at.placed && nat_lt at.column p.column) y p;
  is_paint = is_paint (at.painted && attributes.TheImpl.ghosts.eq at.pen (attributes_of p.cell)) at.painted o.depth (pen_of o.depth at.pen) p;
  sends_more = sends o y (next_at o.widths p) ps;
  whole = send_split o.depth y at p (send o y (next_at o.widths p) ps);
}

sends_rows : (o : Output) (y : ℕ) (pss : List (List PlacedCell)) → SendsRows o.depth y pss (send_rows o y pss)
unfolding send_rows
sends_rows o y [] = refl
sends_rows o y (ps ∷ pss) = record {
  here = send o y nothing_known ps;
  more = send_rows o (y + 1) pss;
  sends = sends o y nothing_known ps;
  sends_more = sends_rows o (y + 1) pss;
  whole = refl;
}

pub is_frame : (o : Output) (cursor : Cursor) (y : ℕ) (pss : List (List PlacedCell)) → IsFrame o cursor y pss (frame o cursor y pss)
is_frame o cursor y pss = record { rows = send_rows o y pss; sends = sends_rows o y pss; framed = refl }

-- ---- no control character is sent

move_safe : (b c : Bool) (x y : ℕ) → Each IsSafe (cond b [] (cond c (across x ∷ []) (place x y ∷ [])))
move_safe true c x y = tt
move_safe false true x y = (tt, tt)
move_safe false false x y = (tt, tt)

-- a pen is set by safe commands
pub pen_safe : (f b : Color) (m : ℕ) → Each IsSafe (paints_of (pen_from f b m))
pen_safe f b m = ((first_pen (pen_from f b m), (first_is f b m, refl)), back_safe (has_name b) b)

whole_safe : (depth : Depth) (a : Attributes) → Each IsSafe (paints_of (pen_of depth a))
whole_safe depth a = pen_safe (color_at depth a.fg) (color_at depth a.bg) a.modifier.bits

either_safe : (b : Bool) (xs ys : List Command) → Each IsSafe xs → Each IsSafe ys → Each IsSafe (cond b xs ys)
either_safe true xs ys a b = a
either_safe false xs ys a b = b

paint_safe : (b c : Bool) (depth : Depth) (from a : Attributes) →
    Each IsSafe (cond b [] (cond c (repaints (pen_of depth from) (pen_of depth a)) (paints_of (pen_of depth a))))
paint_safe b c depth from a =
    let whole = whole_safe depth a in
    let added = adds_safe (color_at depth from.fg) (color_at depth from.bg) (color_at depth a.fg) (color_at depth a.bg) from.modifier.bits a.modifier.bits in
    either_safe b [] _ tt (either_safe c _ (paints_of (pen_of depth a))
    (either_safe (only_adds (pen_of depth from) (pen_of depth a)) (adds_of (pen_of depth from) (pen_of depth a)) (paints_of (pen_of depth a)) added whole) whole)

send_safe : (o : Output) (y : ℕ) (at : At) (ps : List PlacedCell) → Each (λ p. IsSafe (print p.cell.symbol)) ps → Each IsSafe (send o y at ps)
unfolding send
send_safe o y at [] quiet = tt
send_safe o y at (p ∷ ps) quiet =
    let a = attributes_of p.cell in
    Each-append IsSafe (send_one o.depth y at p) _
    (Each-append IsSafe (moves y at p) _ (move_safe (at.placed && (at.column == p.column)) (at.placed && nat_lt at.column p.column) p.column y)
    (Each-append IsSafe (paints o.depth at p) _ (paint_safe (at.painted && attributes.TheImpl.ghosts.eq at.pen a) at.painted o.depth at.pen a)
    (quiet.0, tt)))
    (send_safe o y (next_at o.widths p) ps quiet.1)

rows_safe : (o : Output) (y columns : ℕ) (pss : List (List PlacedCell)) → Each (Each (IsFit o.widths columns)) pss → Each IsSafe (send_rows o y pss)
unfolding send_rows
rows_safe o y columns [] fit = tt
rows_safe o y columns (ps ∷ pss) fit =
    Each-append IsSafe (send o y nothing_known ps) _
    (send_safe o y nothing_known ps (Each-weaker (IsFit o.widths columns) (λ p. IsSafe (print p.cell.symbol)) (λ p h. (h.some, h.quiet)) ps fit.0))
    (rows_safe o (y + 1) columns pss fit.1)

open_safe : (on : Bool) → Each IsSafe (cond on (set_mode synchronizing true ∷ []) [])
open_safe true = (tt, tt)
open_safe false = tt

close_safe : (cursor : Cursor) (on : Bool) → Each IsSafe (cursor_commands cursor ++ cond on (set_mode synchronizing false ∷ []) [])
close_safe Keep true = (tt, tt)
close_safe Keep false = tt
close_safe Hidden true = (tt, (tt, tt))
close_safe Hidden false = (tt, tt)
close_safe (AtPlace p) true = (tt, (tt, (tt, tt)))
close_safe (AtPlace p) false = (tt, (tt, tt))

pub frame_safe : (o : Output) (cursor : Cursor) (y columns : ℕ) (pss : List (List PlacedCell)) → Each (Each (IsFit o.widths columns)) pss → Each IsSafe (frame o cursor y pss)
frame_safe o cursor y columns pss fit =
    Each-append IsSafe (opening o) _ (open_safe o.synchronized)
    (Each-append IsSafe (send_rows o y pss) (closing o cursor) (rows_safe o y columns pss fit) (close_safe cursor o.synchronized))
