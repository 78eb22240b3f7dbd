-- What is known after the last cell that was sent.
use Rattle.std.proofs.Common.{◌≡◌, ℕ, suc, ◌+◌, ◌≤◌, Bool, true, false, List, length, cond, get_or, sym, ap, subst, ◌∙◌, arith}
use Rattle.tui_cells.specs.Cell.{Look, blank}
use Rattle.tui_text.specs.Visible.{step_of}
use Rattle.tui_terminal_model.specs.declared.widths.KnownWidths.{KnownWidths}
use Rattle.tui_terminal_model.specs.Pens.{attributes_of}
use Rattle.tui_terminal_model.specs.Symbols.{has_known_width}
use Rattle.tui_terminal_laws.specs.declared.at.At.{At}
use Rattle.tui_terminal_laws.specs.Sending.{at_after, next_at, nothing_known}
use Rattle.tui_terminal.specs.declared.sending.Reached.{Reached}
use Rattle.tui_terminal.specs.Sent.{at_reached, placed_if}

-- a cell with a symbol of known width is sent
pub reached_sent : (widths : KnownWidths) (left place after : ℕ) (row : List Look) (at : At) (wanted : Bool) → wanted ≡ true → has_known_width widths (get_or row place blank).symbol ≡ true →
    after ≡ place + step_of (get_or row place blank).symbol →
    at_reached left row (place + 1) after ≡ at_after widths at (placed_if wanted (left + place) (get_or row place blank))
unfolding at_after
reached_sent widths left place after row at wanted on sure is =
    let c = get_or row place blank in
    let next : place + 1 ≡ suc place = omega arith in
    let column : left + after ≡ left + place + step_of c.symbol = omega (arith, is) in
    let here : at_reached left row (suc place) after ≡ next_at widths (record { column = left + place; cell = c }) =
    λ j. record { column = column j; placed = sym sure j; pen = attributes_of c; painted = true } in
    ap (λ k. at_reached left row k after) next ∙ (here ∙ ap (λ (b : Bool). at_after widths at (placed_if b (left + place) c)) (sym on))

-- no cell is sent
pub reached_none : (widths : KnownWidths) (column : ℕ) (c : Look) (at : At) (wanted : Bool) → wanted ≡ false → at ≡ at_after widths at (placed_if wanted column c)
unfolding at_after
reached_none widths column c at wanted off = ap (λ (b : Bool). at_after widths at (placed_if b column c)) (sym off)

-- no cell has been sent so far
pub reached_begin : (left : ℕ) (row : List Look) (r : Reached) → r ≡ record { last = 0; after = 0 } → at_reached left row r.last r.after ≡ nothing_known
reached_begin left row r is = ap (λ (k : Reached). at_reached left row k.last k.after) is

-- the places so far are within the row
pub record IsWithin (row : List Look) (column : ℕ) (r : Reached) : Type 0 where
  pub last : r.last ≤ column
  pub after : r.after ≤ length row

pub within_begin : (row : List Look) (r : Reached) → r ≡ record { last = 0; after = 0 } → IsWithin row 0 r
within_begin row r is = subst (IsWithin row 0) (sym is) (record { last = omega arith; after = omega arith })

pub within_more : (row : List Look) (wanted : Bool) (column columns : ℕ) (r next : Reached) → IsWithin row column r → column + columns ≤ length row →
    next ≡ cond wanted (record { last = column + 1; after = column + columns }) r → IsWithin row (column + 1) next
within_more row wanted column columns r next is le e = subst (IsWithin row (column + 1)) (sym e) (here wanted)
  where
    here : (b : Bool) → IsWithin row (column + 1) (cond b (record { last = column + 1; after = column + columns }) r)
    here true = record { last = omega arith; after = le }
    here false = record { last = omega (arith, is.last); after = is.after }
