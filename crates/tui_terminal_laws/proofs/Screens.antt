-- The rows of a screen are sent.
use Rattle.std.proofs.Common.{◌≡◌, ℕ, zero, suc, ◌+◌, ◌<◌, ◌≤◌, Bool, true, false, List, [], ◌∷◌, length, map, All, get_or, flat_map, refl, sym, ap, subst, ◌∙◌, inl, inr, arith}
use Rattle.std.specs.Prelude.{Some}
use Rattle.std.proofs.lemmas.Bool.{cases_Bool, cond-false, true≢false}
use Rattle.std.proofs.lemmas.List.Elements.{All-head, All-tail}
use Rattle.tui_cells.specs.Buffer.{IsScreen, Screen}
use Rattle.tui_cells.specs.Cell.{Look}
use Rattle.tui_cells.specs.declared.rect.Rect.{Rect}
use Rattle.tui_text.specs.Visible.{PlacedCell}
use Rattle.tui_terminal_model.specs.declared.cursor.Cursor.{Cursor}
use Rattle.tui_terminal_model.specs.declared.output.Output.{Output}
use Rattle.tui_terminal_model.specs.declared.widths.KnownWidths.{KnownWidths}
use Rattle.tui_terminal_model.specs.Calls.{IsChange, IsFull, Keeps, mending}
use Rattle.tui_terminal_model.specs.Pieces.{Cover, next_cover, pieces, row_pieces, shown_row, uncovered}
use Rattle.tui_terminal_model.specs.Sends.{AreAll, AreSent, IsSafe}
use Rattle.tui_terminal_model.specs.Shows.{HasRoom, IsCursorInside, Shows, ShowsRow, ShowsCell, KnowsWidths}
use Rattle.tui_terminal_model.specs.Encoding.{encoding}
use Rattle.tui_terminal_model.specs.Terminal.{Shown, Tty, after, mended as was_cut, run, step, reset_modes}
use Rattle.tui_terminal_laws.specs.Sent.{row_sent, row_shown}
use Rattle.tui_terminal_laws.specs.Sending.{change, frame, full, nothing_known, row_in_full, row_changes, rows_sent, send}
use Rattle.tui_terminal_laws.proofs.Apart.{apart_append, change_falling, frame_apart, frame_begins, full_falling}
use Rattle.tui_terminal_laws.proofs.Frames.{FrameRun, frame_keeps, frame_run, frame_safe, is_frame, on_terminal}
use Rattle.tui_terminal_laws.proofs.Lists.{Each, Each-all, Each-append, In}
use Rattle.tui_terminal_laws.proofs.Mending.{mend_safe, mended}
use Rattle.tui_terminal_laws.proofs.Pen.{run_append, steps}
use Rattle.tui_terminal_laws.proofs.Rows.{in_full_all, in_full_in, in_full_shows, in_fit, row_are_sent, row_in, row_shows}
use Rattle.tui_terminal_laws.proofs.Walks.{IsFit}

-- ---- lists of rows

shown_long : (widths : KnownWidths) (cover : Cover) (cs : List Look) → length (shown_row widths cover cs) ≡ length cs
unfolding shown_row
shown_long widths cover [] = refl
shown_long widths cover (c ∷ cs) = ap suc (shown_long widths (next_cover widths cover (1 + length cs) c) cs)

rows_fit : (widths : KnownWidths) (left width columns : ℕ) (rows : List (List Look)) → left + width ≤ columns → All (λ row. length row ≡ width) rows →
    Each (Each (IsFit widths columns)) (map (row_in_full widths left) rows)
rows_fit widths left width columns [] le wide = tt
rows_fit widths left width columns (row ∷ rows) le wide =
    let here : length row ≡ width = All-head (λ r. length r ≡ width) row rows wide in (
      in_fit widths left columns row (row_in_full widths left row) (omega arith) (in_full_in widths left (row_shown widths row)),
      rows_fit widths left width columns rows le (All-tail (λ r. length r ≡ width) row rows wide),
    )

length_map : (widths : KnownWidths) (left : ℕ) (rows : List (List Look)) → length (map (row_in_full widths left) rows) ≡ length rows
length_map widths left [] = refl
length_map widths left (row ∷ rows) = ap suc (length_map widths left rows)

get_map : (widths : KnownWidths) (left : ℕ) (rows : List (List Look)) (k : ℕ) → k < length rows → get_or (map (row_in_full widths left) rows) k [] ≡ row_in_full widths left (get_or rows k [])
get_map widths left [] k lt = absurd (omega arith)
get_map widths left (row ∷ rows) zero lt = refl
get_map widths left (row ∷ rows) (suc k) lt = get_map widths left rows k (omega arith)

row_wide : (width : ℕ) (rows : List (List Look)) (k : ℕ) → k < length rows → All (λ row. length row ≡ width) rows → length (get_or rows k []) ≡ width
row_wide width rows k lt wide = wide k [] lt

sent_fit : (widths : KnownWidths) (left width columns : ℕ) (os ns : List (List Look)) → left + width ≤ columns → All (λ row. length row ≡ width) ns →
    Each (Each (IsFit widths columns)) (rows_sent widths left os ns)
unfolding rows_sent
sent_fit widths left width columns [] ns le wide = tt
sent_fit widths left width columns (o ∷ os) [] le wide = tt
sent_fit widths left width columns (o ∷ os) (n ∷ ns) le wide =
    let here : length n ≡ width = All-head (λ r. length r ≡ width) n ns wide in (
      in_fit widths left columns n (row_changes widths left o n) (omega arith) (row_in widths left (row_shown widths o) (row_shown widths n)),
      sent_fit widths left width columns os ns le (All-tail (λ r. length r ≡ width) n ns wide),
    )

length_sent : (widths : KnownWidths) (left : ℕ) (os ns : List (List Look)) → length os ≡ length ns → length (rows_sent widths left os ns) ≡ length ns
unfolding rows_sent
length_sent widths left [] [] e = refl
length_sent widths left [] (n ∷ ns) e = absurd (omega arith)
length_sent widths left (o ∷ os) [] e = refl
length_sent widths left (o ∷ os) (n ∷ ns) e = ap suc (length_sent widths left os ns (omega arith))

get_sent : (widths : KnownWidths) (left : ℕ) (os ns : List (List Look)) (k : ℕ) → length os ≡ length ns → k < length ns →
    get_or (rows_sent widths left os ns) k [] ≡ row_changes widths left (get_or os k []) (get_or ns k [])
unfolding rows_sent
get_sent widths left [] [] k e lt = absurd (omega arith)
get_sent widths left [] (n ∷ ns) k e lt = absurd (omega arith)
get_sent widths left (o ∷ os) [] k e lt = absurd (omega arith)
get_sent widths left (o ∷ os) (n ∷ ns) zero e lt = refl
get_sent widths left (o ∷ os) (n ∷ ns) (suc k) e lt = get_sent widths left os ns k (omega arith) (omega arith)

-- ---- a full screen

-- the terminal after the reset at the start of a full screen, whatever was cut short before
record IsTamed (t u : Tty) : Type 0 where
  pub modes_reset : u.modes_reset ≡ true
  pub whole : u.whole ≡ true
  pub columns : u.columns ≡ t.columns
  pub height : u.height ≡ t.height
  pub free : u.synchronizing ≡ Some false
  pub cells : t.whole ≡ true → u.cells ≡ t.cells

is_tamed : (knows : List ℕ → Bool) (t : Tty) → IsTamed t (after knows reset_modes t)
is_tamed knows t = elim (cases_Bool t.whole) [
  | inl whole ↦
      let done : IsTamed t (step knows reset_modes t) = record { modes_reset = refl; whole = whole; columns = refl; height = refl; free = refl; cells = λ is. refl } in
      subst (IsTamed t) (sym (steps knows reset_modes t whole)) done
  | inr off ↦
      let done : IsTamed t (was_cut knows reset_modes t) =
      record { modes_reset = refl; whole = refl; columns = refl; height = refl; free = refl; cells = λ is. absurd (true≢false (sym is ∙ off)) } in
      subst (IsTamed t) (sym (cond-false t.whole (step knows reset_modes t) (was_cut knows reset_modes t) off)) done
]

room_still : (b : Screen) (t u : Tty) → u.columns ≡ t.columns → u.height ≡ t.height → HasRoom t b → HasRoom u b
room_still b t u columns height room = record {
  wide = subst (λ k. b.area.x + b.area.width ≤ k) (sym columns) room.wide;
  high = subst (λ k. b.area.y + b.area.height ≤ k) (sym height) room.high;
}

kept_from : (knows : List ℕ → Bool) (o : Output) (b : Screen) (t v : Tty) → v.cells ≡ t.cells → Keeps o knows b t v
kept_from knows o b t v same = record {
  outside = λ r away. ap (λ (c : ℕ → ℕ → Shown). c r) same;
  beside = λ y lt every p away stood. subst (λ (c : ℕ → ℕ → Shown). ShowsCell o.depth (c (b.area.y + y)) p) (sym same) stood;
}

kept_on : (knows : List ℕ → Bool) (o : Output) (b : Screen) (t v u : Tty) → Keeps o knows b t v → Keeps o knows b v u → Keeps o knows b t u
kept_on knows o b t v u first then_more = record {
  outside = λ r away. then_more.outside r away ∙ first.outside r away;
  beside = λ y lt every p away stood. then_more.beside y lt every p away (first.beside y lt every p away stood);
}

-- the terminal before the frame, and what holds for it
abbrev begun : (List ℕ → Bool) → Output → Screen → Tty → Tty
begun knows o b t = run knows (mending o.widths b.area) (after knows reset_modes t)

record IsReadyFor (knows : List ℕ → Bool) (o : Output) (b : Screen) (t u : Tty) : Type 0 where
  pub modes_reset : u.modes_reset ≡ true
  pub whole : u.whole ≡ true
  pub room : HasRoom u b
  pub free : u.synchronizing ≡ Some false
  pub keeps : t.whole ≡ true → Keeps o knows b t u

made_ready : (knows : List ℕ → Bool) (o : Output) (b : Screen) (t : Tty) → KnowsWidths o.widths knows → HasRoom t b → IsReadyFor knows o b t (begun knows o b t)
made_ready knows o b t knows_widths room =
    let v : Tty = after knows reset_modes t in
    let u : Tty = begun knows o b t in
    let modes_reset = is_tamed knows t in
    let room_v : HasRoom v b = room_still b t v modes_reset.columns modes_reset.height room in
    let mend = mended knows o b v knows_widths room_v modes_reset.whole modes_reset.modes_reset in
    record {
      modes_reset = mend.same.modes_reset ∙ modes_reset.modes_reset;
      whole = mend.same.whole ∙ modes_reset.whole;
      room = room_still b v u mend.same.columns mend.same.height room_v;
      free = mend.same.synchronizing ∙ modes_reset.free;
      keeps = λ whole. kept_on knows o b t v u (kept_from knows o b t v (modes_reset.cells whole)) mend.keeps;
    }

pub full_law : (o : Output) (cursor : Cursor) (b : Screen) → IsScreen b → IsCursorInside cursor b → IsFull o cursor b (flat_map encoding (full o cursor b))
full_law o cursor b is place_is =
    let left = b.area.x in
    let pss = map (row_in_full o.widths left) b.rows in
    let len = length_map o.widths left b.rows in
    let cs = frame o cursor b.area.y pss in
    let ready : (knows : List ℕ → Bool) (t : Tty) → KnowsWidths o.widths knows → HasRoom t b → IsReadyFor knows o b t (begun knows o b t) = λ knows t knows_widths room.
    made_ready knows o b t knows_widths room in
    let runs : (knows : List ℕ → Bool) (t : Tty) → KnowsWidths o.widths knows → HasRoom t b → FrameRun knows o cursor pss b.area.y (begun knows o b t) (run knows (full o cursor b) t) = λ knows t knows_widths room.
    let v : Tty = begun knows o b t in
    let modes_reset = ready knows t knows_widths room in
    let high : b.area.y + length pss ≤ v.height = omega (arith, modes_reset.room.high, is.high, len) in
    subst (FrameRun knows o cursor pss b.area.y v) (sym (run_append knows (mending o.widths b.area) cs (after knows reset_modes t)))
    (frame_run knows o cursor pss b.area.y v knows_widths modes_reset.whole modes_reset.modes_reset high (rows_fit o.widths left b.area.width v.columns b.rows modes_reset.room.wide is.wide)
    (on_terminal cursor b v place_is modes_reset.room)) in
    let mend = mend_safe o.widths o b in
    record {
      commands = full o cursor b;
      encoded = record {
        encoded = refl;
        safe = Each-all IsSafe (full o cursor b) (
          tt,
          Each-append IsSafe (mending o.widths b.area) cs mend.0
              (frame_safe o cursor b.area.y (left + b.area.width) pss (rows_fit o.widths left b.area.width (left + b.area.width) b.rows (omega arith) is.wide)),
        );
        apart = (tt, apart_append o.widths (mending o.widths b.area) cs mend.1 (frame_apart o cursor b.area.y pss (full_falling o.widths left b.rows)) (frame_begins o cursor b.area.y pss));
        begins = tt;
      };
      shows = λ knows t knows_widths room.
          let v : Tty = begun knows o b t in
          let modes_reset = ready knows t knows_widths room in
          let room_v = modes_reset.room in
          let all = runs knows t knows_widths room in
          record {
            ready = record { modes_reset = all.modes_reset; whole = all.whole; not_synchronizing = all.freed modes_reset.free };
            room = room_still b v (run knows (full o cursor b) t) all.columns all.height room_v;
            rows = λ y lt.
                let row = all.rows y (omega (arith, len)) in
                let w = row.before in
                let cells = get_or b.rows y [] in
                let r = b.area.y + y in
                let wide = row_wide b.area.width b.rows y lt is.wide in
                let high : r < w.height = omega (arith, row.height, room_v.high, is.high) in
                let fits : left + length cells ≤ w.columns = omega (arith, row.columns, room_v.wide, wide) in
                let shown = in_full_shows knows o r left cells w knows_widths row.whole row.modes_reset high fits in
                let made = row.made ∙ ap (λ (ps : List PlacedCell). (run knows (send o r nothing_known ps) w).cells r) (get_map o.widths left b.rows y lt) in
                subst (λ (c : ℕ → Shown). ShowsRow o knows c (row_pieces o.widths b y)) (sym made) shown;
          };
      at_cursor = λ knows t knows_widths room. (runs knows t knows_widths room).at_cursor;
      keeps = λ knows t knows_widths room whole.
          let v : Tty = begun knows o b t in
          let modes_reset = ready knows t knows_widths room in
          let within : (y : ℕ) → y < length b.rows → Each (λ p. In p (row_pieces o.widths b y)) (get_or pss y []) = λ y lt.
          subst (Each (λ p. In p (row_pieces o.widths b y))) (sym (get_map o.widths left b.rows y lt)) (in_full_in o.widths left (row_shown o.widths (get_or b.rows y []))) in
          let kept = frame_keeps knows o cursor b pss v (run knows (full o cursor b) t) is knows_widths modes_reset.room len within (runs knows t knows_widths room) in
          kept_on knows o b t v (run knows (full o cursor b) t) (modes_reset.keeps whole) kept;
      sent = pss;
      counted = len;
      frame = cs;
      framed = is_frame o cursor b.area.y pss;
      modes_reset = refl;
      each = λ y lt. subst (AreAll (row_pieces o.widths b y)) (sym (get_map o.widths left b.rows y lt)) (in_full_all o.widths left (row_shown o.widths (get_or b.rows y [])));
    }

-- ---- what has changed

pub change_law : (o : Output) (cursor : Cursor) (old new : Screen) → IsScreen old → IsScreen new → old.area ≡ new.area → IsCursorInside cursor new → IsChange o cursor old new (flat_map encoding (change o cursor old new))
change_law o cursor old new was is area place_is =
    let left = new.area.x in
    let pss = rows_sent o.widths left old.rows new.rows in
    let heights : old.area.height ≡ new.area.height = ap (λ (a : Rect). a.height) area in
    let widths : old.area.width ≡ new.area.width = ap (λ (a : Rect). a.width) area in
    let same : length old.rows ≡ length new.rows = omega (arith, was.high, is.high, heights) in
    let len = length_sent o.widths left old.rows new.rows same in
    let rooms : (t : Tty) → HasRoom t old → HasRoom t new = λ t room. record {
      wide = subst (λ (a : Rect). a.x + a.width ≤ t.columns) area room.wide;
      high = subst (λ (a : Rect). a.y + a.height ≤ t.height) area room.high;
    } in
    let longs : (y : ℕ) → y < length new.rows → length (row_shown o.widths (get_or old.rows y [])) ≡ length (row_shown o.widths (get_or new.rows y [])) = λ y lt.
    let wide = row_wide new.area.width new.rows y lt is.wide in
    let wide_old = row_wide old.area.width old.rows y (omega arith) was.wide in
    let a = shown_long o.widths uncovered (get_or old.rows y []) in
    let b = shown_long o.widths uncovered (get_or new.rows y []) in
    omega (arith, wide, wide_old, widths, a, b) in
    let runs : (knows : List ℕ → Bool) (t : Tty) → KnowsWidths o.widths knows → Shows o knows t old → FrameRun knows o cursor pss new.area.y t (run knows (change o cursor old new) t) = λ knows t knows_widths shown.
    let room = rooms t shown.room in
    let high : new.area.y + length pss ≤ t.height = omega (arith, room.high, is.high, len) in
    frame_run knows o cursor pss new.area.y t knows_widths shown.ready.whole shown.ready.modes_reset high (sent_fit o.widths left new.area.width t.columns old.rows new.rows room.wide is.wide)
    (on_terminal cursor new t place_is room) in
    record {
      commands = change o cursor old new;
      encoded = record {
        encoded = refl;
        safe = Each-all IsSafe (change o cursor old new)
            (frame_safe o cursor new.area.y (left + new.area.width) pss (sent_fit o.widths left new.area.width (left + new.area.width) old.rows new.rows (omega arith) is.wide));
        apart = frame_apart o cursor new.area.y pss (change_falling o.widths left old.rows new.rows);
        begins = frame_begins o cursor new.area.y pss;
      };
      shows = λ knows t knows_widths shown.
          let all = runs knows t knows_widths shown in
          let room = rooms t shown.room in
          record {
            ready = record { modes_reset = all.modes_reset; whole = all.whole; not_synchronizing = all.freed shown.ready.not_synchronizing };
            room = room_still new t (run knows (change o cursor old new) t) all.columns all.height room;
            rows = λ y lt.
                let row = all.rows y (omega (arith, len)) in
                let v = row.before in
                let r = new.area.y + y in
                let olds = get_or old.rows y [] in
                let news = get_or new.rows y [] in
                let wide = row_wide new.area.width new.rows y lt is.wide in
                let lt_old : y < length old.rows = omega arith in
                let high : r < v.height = omega (arith, row.height, room.high, is.high) in
                let fits : left + length news ≤ v.columns = omega (arith, row.columns, room.wide, wide) in
                let stood : ShowsRow o knows (t.cells r) (pieces left (row_shown o.widths olds)) =
                subst (λ (a : Rect). ShowsRow o knows (t.cells (a.y + y)) (pieces a.x (row_shown o.widths olds))) area (shown.rows y lt_old) in
                let stood_then : ShowsRow o knows (v.cells r) (pieces left (row_shown o.widths olds)) =
                subst (λ (c : ℕ → Shown). ShowsRow o knows c (pieces left (row_shown o.widths olds))) (sym row.same) stood in
                let seen = row_shows knows o r left olds news v knows_widths row.whole row.modes_reset high fits (longs y lt) stood_then in
                let made = row.made ∙ ap (λ (ps : List PlacedCell). (run knows (send o r nothing_known ps) v).cells r) (get_sent o.widths left old.rows new.rows y same lt) in
                subst (λ (c : ℕ → Shown). ShowsRow o knows c (row_pieces o.widths new y)) (sym made) seen;
          };
      at_cursor = λ knows t knows_widths shown. (runs knows t knows_widths shown).at_cursor;
      keeps = λ knows t knows_widths shown.
          let within : (y : ℕ) → y < length new.rows → Each (λ p. In p (row_pieces o.widths new y)) (get_or pss y []) = λ y lt.
          subst (Each (λ p. In p (row_pieces o.widths new y))) (sym (get_sent o.widths left old.rows new.rows y same lt))
          (row_in o.widths left (row_shown o.widths (get_or old.rows y [])) (row_shown o.widths (get_or new.rows y []))) in
          frame_keeps knows o cursor new pss t (run knows (change o cursor old new) t) is knows_widths (rooms t shown.room) len within (runs knows t knows_widths shown);
      sent = pss;
      counted = len;
      framed = is_frame o cursor new.area.y pss;
      each = λ y lt.
          let olds = row_shown o.widths (get_or old.rows y []) in
          let news = row_shown o.widths (get_or new.rows y []) in
          subst (AreSent o.widths (row_pieces o.widths old y) (row_pieces o.widths new y)) (sym (get_sent o.widths left old.rows new.rows y same lt))
          (subst (λ (a : Rect). AreSent o.widths (pieces a.x olds) (row_pieces o.widths new y) (row_sent o.widths left olds news)) (sym area)
          (row_are_sent o.widths left olds news (longs y lt)));
    }
