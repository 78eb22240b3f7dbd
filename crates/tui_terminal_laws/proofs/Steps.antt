-- One cell is sent.
use Rattle.std.proofs.Common.{◌≡◌, ℕ, ◌+◌, ◌-◌, ◌<◌, ◌≤◌, Bool, true, false, not, ◌&&◌, ◌==◌, List, [], ◌∷◌, ◌++◌, refl, sym, ap, subst, ◌∙◌, inl, inr, ◌⊎◌, Option, Some, None, arith}
use Rattle.std.specs.Option.{option_map_or}
use Rattle.std.specs.Prelude.{nat_lt, nat_le, if◌then◌else◌}
use Rattle.std.proofs.lemmas.Bool.{and_parts, and_from, and_left, and_right, cases_Bool, cond-true, cond-false, eqb-true, lt-ltb, ltb-true, le-ltb, le-leb, lt-leb, true≢false}
use Rattle.std.proofs.lemmas.Bool.Decides.{nat_tests}
use Rattle.tui_cells.specs.Same.{same_attributes}
use Rattle.tui_cells.specs.contracts.attributes.AttributesPartialEq as attributes
use Rattle.tui_cells.specs.declared.attributes.Attributes.{Attributes}
use Rattle.tui_text.specs.Visible.{PlacedCell, step_of}
use Rattle.tui_terminal_model.specs.declared.depth.Depth.{Depth}
use Rattle.tui_terminal_model.specs.declared.output.Output.{Output}
use Rattle.tui_terminal_model.specs.Colours.{color_at}
use Rattle.tui_terminal_model.specs.Pens.{adds_of, attributes_of, only_adds, paints_of, pen_of}
use Rattle.tui_terminal_model.specs.Symbols.{has_known_width}
use Rattle.tui_terminal_model.specs.Shows.{ShowsCell, KnowsWidths}
use Rattle.tui_terminal_model.specs.Terminal.{Command, place, across, print, Shown, part, unknown, Spot, Tty, after, cut, drawn, cells_unknown, reach, run, shifted, row_unknown, with_row}
use Rattle.tui_terminal_laws.specs.declared.at.At.{At}
use Rattle.tui_terminal_laws.specs.Sending.{moves, moves_on, next_at, paints, repaints, send_one}
use Rattle.tui_terminal_laws.proofs.Adding.{pen_added}
use Rattle.tui_terminal_laws.proofs.Pen.{pen_set, run_append, steps, with_pen}
use Rattle.tui_terminal_laws.proofs.Walks.{Apart, IsFit}

-- what is known of the terminal is true
pub record IsAt (depth : Depth) (y : ℕ) (at : At) (t : Tty) : Type 0 where
  pub placed_at : at.placed ≡ true → at.column < t.columns → t.cursor ≡ Some (record { column = at.column; row = y })
  pub painted_by : at.painted ≡ true → t.pen ≡ Some (pen_of depth at.pen)

-- ---- the commands before the symbol

abbrev pub at_spot : ℕ → ℕ → Tty → Tty
at_spot x y t = record t { cursor = Some (record { column = x; row = y }) }

moved_on : (knows : List ℕ → Bool) (depth : Depth) (y : ℕ) (at : At) (p : PlacedCell) (t : Tty) → t.whole ≡ true → t.modes_reset ≡ true → p.column < t.columns → y < t.height →
    IsAt depth y at t → run knows (moves_on y at p.column) t ≡ at_spot p.column y t
moved_on knows depth y at p t whole modes_reset wide high is = elim (cases_Bool (at.placed && nat_lt at.column p.column)) [
  | inl before ↦
      let h = and_parts at.placed (nat_lt at.column p.column) before in
      let lt : at.column < p.column = ltb-true at.column p.column h.1 in
      let low : at.column < t.columns = omega arith in
      let shows_cell : t.cursor ≡ Some (record { column = at.column; row = y }) = is.placed_at h.0 low in
      let on : (t.modes_reset && nat_lt p.column t.columns) ≡ true = and_from t.modes_reset _ modes_reset (lt-ltb p.column t.columns wide) in
      ap (λ (cs : List Command). run knows cs t) (cond-true _ (across p.column ∷ []) (place p.column y ∷ []) before)
      ∙ (steps knows (across p.column) t whole
      ∙ ((λ i. record t { cursor = option_map_or (shifted p.column t) (shows_cell i) None })
      ∙ ap (λ (c : Option Spot). record t { cursor = c }) (cond-true _ (Some (record { column = p.column; row = y })) None on)))
  | inr other ↦
      let on : (t.modes_reset && (nat_lt p.column t.columns && nat_lt y t.height)) ≡ true =
      and_from t.modes_reset _ modes_reset (and_from (nat_lt p.column t.columns) (nat_lt y t.height) (lt-ltb p.column t.columns wide) (lt-ltb y t.height high)) in
      ap (λ (cs : List Command). run knows cs t) (cond-false _ (across p.column ∷ []) (place p.column y ∷ []) other)
      ∙ steps knows (place p.column y) t whole
      ∙ ap (λ (c : Option Spot). record t { cursor = c }) (cond-true _ (Some (record { column = p.column; row = y })) None on)
]

moved : (knows : List ℕ → Bool) (depth : Depth) (y : ℕ) (at : At) (p : PlacedCell) (t : Tty) → t.whole ≡ true → t.modes_reset ≡ true → p.column < t.columns → y < t.height →
    IsAt depth y at t → run knows (moves y at p) t ≡ at_spot p.column y t
moved knows depth y at p t whole modes_reset wide high is = elim (cases_Bool (at.placed && (at.column == p.column))) [
  | inl here ↦
      let h = and_parts at.placed (at.column == p.column) here in
      let same : at.column ≡ p.column = eqb-true at.column p.column h.1 in
      let low : at.column < t.columns = omega arith in
      let shows_cell : t.cursor ≡ Some (record { column = p.column; row = y }) = is.placed_at h.0 low ∙ ap (λ k. Some (record { column = k; row = y })) same in
      ap (λ (cs : List Command). run knows cs t) (cond-true _ [] (moves_on y at p.column) here) ∙ (λ i. record t { cursor = shows_cell i })
  | inr away ↦ ap (λ (cs : List Command). run knows cs t) (cond-false _ [] (moves_on y at p.column) away) ∙ moved_on knows depth y at p t whole modes_reset wide high is
]

-- a known pen becomes another one
repainted : (knows : List ℕ → Bool) (depth : Depth) (from a : Attributes) (t : Tty) → t.whole ≡ true → t.pen ≡ Some (pen_of depth from) →
    run knows (repaints (pen_of depth from) (pen_of depth a)) t ≡ with_pen (pen_of depth a) t
repainted knows depth from a t whole is =
    let p = pen_of depth from in
    let q = pen_of depth a in
    elim (cases_Bool (only_adds p q)) [
      | inl adds ↦
          ap (λ (ds : List Command). run knows ds t) (cond-true (only_adds p q) (adds_of p q) (paints_of q) adds)
          ∙ ((λ i. run knows (adds_of p q) (record t { pen = is i }))
          ∙ pen_added knows (color_at depth from.fg) (color_at depth from.bg) (color_at depth a.fg) (color_at depth a.bg) from.modifier.bits a.modifier.bits t whole adds)
      | inr takes ↦
          ap (λ (ds : List Command). run knows ds t) (cond-false (only_adds p q) (adds_of p q) (paints_of q) takes)
          ∙ pen_set knows (color_at depth a.fg) (color_at depth a.bg) a.modifier.bits t whole
    ]

painted : (knows : List ℕ → Bool) (depth : Depth) (at : At) (p : PlacedCell) (t : Tty) → t.whole ≡ true → (at.painted ≡ true → t.pen ≡ Some (pen_of depth at.pen)) →
    run knows (paints depth at p) t ≡ with_pen (pen_of depth (attributes_of p.cell)) t
painted knows depth at p t whole is =
    let a = attributes_of p.cell in
    let whole_pen : List Command = paints_of (pen_of depth a) in
    let cs : List Command = if at.painted then repaints (pen_of depth at.pen) (pen_of depth a) else whole_pen in
    elim (cases_Bool (at.painted && attributes.TheImpl.ghosts.eq at.pen a)) [
      | inl here ↦
          let h = and_parts at.painted (attributes.TheImpl.ghosts.eq at.pen a) here in
          let shows_cell : t.pen ≡ Some (pen_of depth a) = is h.0 ∙ ap (λ k. Some (pen_of depth k)) (same_attributes at.pen a h.1) in
          ap (λ (ds : List Command). run knows ds t) (cond-true _ [] cs here) ∙ (λ i. record t { pen = shows_cell i })
      | inr other ↦
          ap (λ (ds : List Command). run knows ds t) (cond-false _ [] cs other)
          ∙ elim (cases_Bool at.painted) [
            | inl known ↦
                ap (λ (ds : List Command). run knows ds t) (cond-true at.painted (repaints (pen_of depth at.pen) (pen_of depth a)) whole_pen known)
                ∙ repainted knows depth at.pen a t whole (is known)
            | inr fresh ↦
                ap (λ (ds : List Command). run knows ds t) (cond-false at.painted (repaints (pen_of depth at.pen) (pen_of depth a)) whole_pen fresh)
                ∙ pen_set knows (color_at depth a.fg) (color_at depth a.bg) a.modifier.bits t whole
          ]
    ]

-- the terminal right before the symbol is printed
abbrev pub ready : Depth → ℕ → PlacedCell → Tty → Tty
ready depth y p t = with_pen (pen_of depth (attributes_of p.cell)) (at_spot p.column y t)

pub sent_one : (knows : List ℕ → Bool) (depth : Depth) (y : ℕ) (at : At) (p : PlacedCell) (t : Tty) → t.whole ≡ true → t.modes_reset ≡ true → p.column < t.columns → y < t.height →
    IsAt depth y at t → run knows (send_one depth y at p) t ≡ after knows (print p.cell.symbol) (ready depth y p t)
sent_one knows depth y at p t whole modes_reset wide high is =
    run_append knows (moves y at p) _ t
    ∙ (ap (run knows (paints depth at p ++ print p.cell.symbol ∷ [])) (moved knows depth y at p t whole modes_reset wide high is)
    ∙ (run_append knows (paints depth at p) (print p.cell.symbol ∷ []) (at_spot p.column y t)
    ∙ ap (after knows (print p.cell.symbol)) (painted knows depth at p (at_spot p.column y t) whole is.painted_by)))

-- ---- the symbol

-- what sending a cell never changes
pub record Stays (t u : Tty) : Type 0 where
  pub modes_reset : u.modes_reset ≡ t.modes_reset
  pub whole : u.whole ≡ t.whole
  pub columns : u.columns ≡ t.columns
  pub height : u.height ≡ t.height
  pub synchronizing : u.synchronizing ≡ t.synchronizing

pub stays : (t : Tty) → Stays t t
stays t = record { modes_reset = refl; whole = refl; columns = refl; height = refl; synchronizing = refl }

pub stays_on : (t u v : Tty) → Stays t u → Stays u v → Stays t v
stays_on t u v a b = record {
  modes_reset = b.modes_reset ∙ a.modes_reset;
  whole = b.whole ∙ a.whole;
  columns = b.columns ∙ a.columns;
  height = b.height ∙ a.height;
  synchronizing = b.synchronizing ∙ a.synchronizing;
}

-- the terminal after a cell was sent
pub record IsSent (knows : List ℕ → Bool) (o : Output) (y : ℕ) (p : PlacedCell) (t u : Tty) : Type 0 where
  pub same : Stays t u
  pub known_at : IsAt o.depth y (next_at o.widths p) u
  pub others : (r : ℕ) → (r ≡ y → ⊥) → u.cells r ≡ t.cells r
  pub row : knows p.cell.symbol ≡ true → u.cells y ≡ drawn p.column p.cell.symbol (pen_of o.depth (attributes_of p.cell)) (t.cells y)

other_row : (y : ℕ) (row : ℕ → Shown) (cells : ℕ → ℕ → Shown) (r : ℕ) → (r ≡ y → ⊥) → with_row y row cells r ≡ cells r
other_row y row cells r away =
    let no_row : (r == y) ≡ false = grind (arith, nat_tests) in
    λ i column. cond-false (r == y) (row column) (cells r column) no_row i

own_row : (y : ℕ) (row : ℕ → Shown) (cells : ℕ → ℕ → Shown) → with_row y row cells y ≡ row
own_row y row cells =
    let one_row : (y == y) ≡ true = grind (arith, nat_tests) in
    λ i column. cond-true (y == y) (row column) (cells y column) one_row i

pub symbol_sent : (knows : List ℕ → Bool) (o : Output) (y : ℕ) (p : PlacedCell) (t : Tty) → KnowsWidths o.widths knows → t.whole ≡ true → t.modes_reset ≡ true → IsFit o.widths t.columns p →
    IsSent knows o y p t (after knows (print p.cell.symbol) (ready o.depth y p t))
symbol_sent knows o y p t knows_widths whole modes_reset fit =
    let s = p.cell.symbol in
    let end = p.column + step_of s in
    let pen = pen_of o.depth (attributes_of p.cell) in
    let start = ready o.depth y p t in
    let known : Tty = record start {
      cells = with_row y (drawn p.column s pen (t.cells y)) t.cells;
      cursor = if nat_lt end t.columns then Some (record { column = end; row = y }) else None;
    } in
    let other : Tty = if nat_le (p.column + reach s) t.columns then row_unknown y start else cells_unknown start in
    let all : Tty = if knows s && nat_le end t.columns then known else other in
    let is_known : nat_le end t.columns ≡ true = le-leb end t.columns fit.wide in
    let first : after knows (print s) start ≡ all = steps knows (print s) start whole ∙ cond-false (not t.modes_reset) (cells_unknown start) all (ap not modes_reset) in
    elim (cases_Bool (knows s)) [
      | inl knew ↦
          let on : (knows s && nat_le end t.columns) ≡ true = and_from (knows s) _ knew is_known in
          let done : IsSent knows o y p t known = record {
            same = record { modes_reset = refl; whole = refl; columns = refl; height = refl; synchronizing = refl };
            known_at = record { placed_at = λ placed low. cond-true _ (Some (record { column = end; row = y })) None (lt-ltb end t.columns low); painted_by = λ is. refl };
            others = λ r away. other_row y _ t.cells r away;
            row = λ is. own_row y _ t.cells;
          } in
          subst (IsSent knows o y p t) (sym (first ∙ cond-true _ known other on)) done
      | inr new ↦
          let off : (knows s && nat_le end t.columns) ≡ false = and_left (knows s) _ new in
          let uncertain : has_known_width o.widths s ≡ false = elim (cases_Bool (has_known_width o.widths s)) [
            | inl known_width ↦ absurd (true≢false (sym (knows_widths s known_width) ∙ new))
            | inr uncertain ↦ uncertain
          ] in
          let fits : nat_le (p.column + reach s) t.columns ≡ true = le-leb (p.column + reach s) t.columns (fit.reaches uncertain) in
          let done : IsSent knows o y p t (row_unknown y start) = record {
            same = record { modes_reset = refl; whole = refl; columns = refl; height = refl; synchronizing = refl };
            known_at = record { placed_at = λ placed low. absurd (true≢false (sym placed ∙ uncertain)); painted_by = λ is. refl };
            others = λ r away. other_row y _ t.cells r away;
            row = λ is. absurd (true≢false (sym is ∙ new));
          } in
          subst (IsSent knows o y p t) (sym (first ∙ cond-false _ known other off ∙ cond-true _ (row_unknown y start) (cells_unknown start) fits)) done
    ]

-- ---- what is shown then

pub drawn_shows_cell : (depth : Depth) (p : PlacedCell) (row : ℕ → Shown) →
    ShowsCell depth (drawn p.column p.cell.symbol (pen_of depth (attributes_of p.cell)) row) p
drawn_shows_cell depth p row i lt =
    let x = p.column in
    let s = p.cell.symbol in
    let pen = pen_of depth (attributes_of p.cell) in
    let low : nat_le x (x + i) ≡ true = le-leb x (x + i) (omega arith) in
    let high : nat_lt (x + i) (x + step_of s) ≡ true = lt-ltb (x + i) (x + step_of s) (omega arith) in
    let place_is : x + i - x ≡ i = omega arith in
    cond-true _ (part s pen (x + i - x)) _ (and_from _ _ low high) ∙ ap (part s pen) place_is

outside : (from to column : ℕ) → (to ≤ column) ⊎ (column < from) → (nat_le from column && nat_lt column to) ≡ false
outside from to column (inl past) = and_right _ _ (le-ltb column to past)
outside from to column (inr before) = and_left _ _ (lt-leb from column before)

uncut : (from to start end : ℕ) → (to ≤ start) ⊎ (end ≤ from) → (nat_lt start to && nat_lt from end) ≡ false
uncut from to start end (inl past) = and_left _ _ (le-ltb start to past)
uncut from to start end (inr before) = and_right _ _ (le-ltb from end before)

columns_apart : (from to start end i : ℕ) → (to ≤ start) ⊎ (end ≤ from) → start + i < end → (to ≤ start + i) ⊎ (start + i < from)
columns_apart from to start end i (inl past) lt = inl (omega arith)
columns_apart from to start end i (inr before) lt = inr (omega arith)

pub drawn_keeps : (depth : Depth) (p q : PlacedCell) (row : ℕ → Shown) → Apart p q → ShowsCell depth row q →
    ShowsCell depth (drawn p.column p.cell.symbol (pen_of depth (attributes_of p.cell)) row) q
drawn_keeps depth p q row away shows_cell i lt =
    let x = p.column in
    let to = x + step_of p.cell.symbol in
    let s = q.cell.symbol in
    let pen = pen_of depth (attributes_of q.cell) in
    let column = q.column + i in
    let inside : column < q.column + step_of s = omega arith in
    let off = outside x to column (columns_apart x to q.column (q.column + step_of s) i away inside) in
    let start : column - i ≡ q.column = omega arith in
    let whole : (nat_lt (column - i) to && nat_lt x (column - i + step_of s)) ≡ false =
    subst (λ k. (nat_lt k to && nat_lt x (k + step_of s)) ≡ false) (sym start) (uncut x to q.column (q.column + step_of s) away) in
    cond-false _ (part p.cell.symbol (pen_of depth (attributes_of p.cell)) (column - x)) (cut x to column (row column)) off
    ∙ (ap (cut x to column) (shows_cell i lt) ∙ cond-false _ unknown (part s pen i) whole)
