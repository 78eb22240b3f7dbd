-- Rows of symbols of known width that fit.
use Rattle.std.proofs.Common.{◌≡◌, ℕ, zero, suc, ◌+◌, ◌-◌, ◌<◌, ◌≤◌, ◌==◌, min, Bool, true, false, not, ◌&&◌, List, [], ◌∷◌, length, cond, get_or, drop, inl, inr, refl, sym, ap, ◌∙◌, arith}
use Rattle.std.specs.Prelude.{nat_le, None, Some}
use Rattle.std.specs.List.{list_all}
use Rattle.std.proofs.lemmas.Bool.{and_from, and_parts, cases_Bool, cond-true, cond-false, leb-true}
use Rattle.std.proofs.lemmas.Bool.Decides.{nat_tests}
use Rattle.std.proofs.lemmas.List.{drop_all, length-drop}
use Rattle.tui_cells.specs.Cell.{Look}
use Rattle.tui_text.specs.Visible.{step_of}
use Rattle.tui_terminal_model.specs.declared.widths.KnownWidths.{KnownWidths}
use Rattle.tui_terminal_model.specs.Pieces.{next_cover, shown}
use Rattle.tui_terminal_model.specs.Symbols.{is_ascii, is_sendable, has_known_width}
use Rattle.tui_terminal_laws.specs.Sending.{row_changes}
use Rattle.tui_terminal_laws.specs.Sent.{in_full, changes, is_same, row_shown}
use Rattle.tui_terminal_laws.proofs.Seen.{seen_true, under}
use Rattle.tui_terminal.specs.Fitting.{are_fit, is_fit}
use Rattle.tui_terminal.specs.Sent.{is_calm_both, placed_if, shows_same}
use Rattle.tui_terminal.proofs.Looks.{byte_steps, byte_known_width, cover_as_it_is, next_open, next_under, shown_open, shown_under, known_width_sendable}
use Rattle.tui_terminal.proofs.NarrowLooks.{known_width_quiet}
use Rattle.tui_terminal.proofs.KnownWidthRows.{known_width_calm}
use Rattle.tui_terminal.proofs.Walking.{dropped, maybe, new_is, sent_in}
use Rattle.tui_terminal_laws.specs.declared.wanted.Wanted.TheVariants.{Changed}

-- ---- a cell

pub fit_known_width : (widths : KnownWidths) (room : ℕ) (c : Look) → is_fit widths room c ≡ true → has_known_width widths c.symbol ≡ true
fit_known_width widths room c e = (and_parts (has_known_width widths c.symbol) (nat_le (step_of c.symbol) room) e).0

pub fit_room : (widths : KnownWidths) (room : ℕ) (c : Look) → is_fit widths room c ≡ true → step_of c.symbol ≤ room
fit_room widths room c e = leb-true (step_of c.symbol) room (and_parts (has_known_width widths c.symbol) (nat_le (step_of c.symbol) room) e).1

-- a printable byte fits wherever a column is left
pub byte_fit : (widths : KnownWidths) (room : ℕ) (c : Look) → 0 < room → is_ascii c.symbol ≡ true → is_fit widths room c ≡ true
byte_fit widths room c some e =
    let step = byte_steps c.symbol e in
    let fits : nat_le (step_of c.symbol) room ≡ true = (let le : step_of c.symbol ≤ room = omega (arith, some, step) in grind (arith, nat_tests)) in
    and_from (has_known_width widths c.symbol) (nat_le (step_of c.symbol) room) (byte_known_width widths c.symbol e) fits

fit_sendable : (widths : KnownWidths) (room : ℕ) (c : Look) → is_fit widths room c ≡ true → is_sendable widths room c.symbol ≡ true
fit_sendable widths room c e =
    let sure = fit_known_width widths room c e in known_width_sendable widths room c.symbol sure (known_width_quiet widths c.symbol sure) (fit_room widths room c e)

-- the cell shows as it is if nothing covers it, and else not at all
pub fit_shown : (widths : KnownWidths) (room k : ℕ) (c : Look) → is_fit widths room c ≡ true → maybe (k == 0) c ≡ shown widths (under k None) room c
fit_shown widths room k c e = elim (cases_Bool (k == 0)) [
  | inl on ↦ cond-true (k == 0) (Some c) None on ∙ (ap Some (sym (seen_true widths room c (fit_sendable widths room c e))) ∙ shown_open widths (under k None) room c on)
  | inr off ↦ cond-false (k == 0) (Some c) None off ∙ shown_under widths (under k None) room c off
]

-- the cells after it are covered by it, or by what covers it
pub fit_next : (widths : KnownWidths) (room k n : ℕ) (c : Look) → is_fit widths room c ≡ true → n ≡ cond (k == 0) (step_of c.symbol - 1) (k - 1) →
    under n None ≡ next_cover widths (under k None) room c
fit_next widths room k n c e is = elim (cases_Bool (k == 0)) [
  | inl on ↦
      let le = fit_room widths room c e in
      let left : step_of c.symbol - 1 ≡ min (step_of c.symbol) room - 1 = omega (arith, le) in
      let here = cover_as_it_is widths room c c.symbol (step_of c.symbol - 1) true refl left (sym (fit_sendable widths room c e)) refl in
      ap (λ m. under m None) (is ∙ cond-true (k == 0) (step_of c.symbol - 1) (k - 1) on) ∙ (here ∙ next_open widths (under k None) room c on)
  | inr off ↦ ap (λ m. under m None) (is ∙ cond-false (k == 0) (step_of c.symbol - 1) (k - 1) off) ∙ next_under widths (under k None) room c off
]

same_or_none : (b : Bool) (o n : Look) → (b && is_same o n) ≡ shows_same (maybe b o) n
same_or_none true o n = refl
same_or_none false o n = refl

-- what is sent of a column
pub fit_here : (widths : KnownWidths) (column room was is : ℕ) (o n : Look) (wanted : Bool) → is_fit widths room o ≡ true → is_fit widths room n ≡ true →
    wanted ≡ ((is == 0) && not ((was == 0) && is_same o n)) →
    placed_if wanted column n ≡ sent_in widths Changed column (shown widths (under was None) room o) (shown widths (under is None) room n)
fit_here widths column room was is o n wanted eo en e =
    new_is widths column (maybe (was == 0) o) (shown widths (under was None) room o) (shown widths (under is None) room n) (is == 0) wanted n
    (e ∙ ap (λ (b : Bool). (is == 0) && not b) (same_or_none (was == 0) o n)) (fit_shown widths room was o eo) (fit_shown widths room is n en)

-- ---- a row

-- one more cell
pub fit_more : (widths : KnownWidths) (row : List Look) (i room : ℕ) (c : Look) (fits : Bool) → i < length row → c ≡ get_or row i c → room ≡ length row - i →
    is_fit widths room c ≡ fits → are_fit widths (drop i row) ≡ (fits && are_fit widths (drop (i + 1) row))
unfolding are_fit
fit_more widths row i room c fits lt is size e =
    let left : 1 + length (drop (i + 1) row) ≡ room = omega (arith, length-drop (i + 1) row) in
    ap (are_fit widths) (dropped row i c lt is) ∙ ((λ j. is_fit widths (left j) c && are_fit widths (drop (i + 1) row)) ∙ ap (λ (b : Bool). b && are_fit widths (drop (i + 1) row)) e)

-- after the last cell
pub fit_all : (widths : KnownWidths) (row : List Look) (i : ℕ) → length row ≤ i → true ≡ are_fit widths (drop i row)
unfolding are_fit
fit_all widths row i past = sym (ap (are_fit widths) (drop_all i row past))

-- a cell of such a row
pub fit_cell : (widths : KnownWidths) (row : List Look) (i : ℕ) (c : Look) → i < length row → c ≡ get_or row i c → are_fit widths row ≡ true → is_fit widths (length row - i) c ≡ true
unfolding are_fit
fit_cell widths [] i c lt is e = absurd (omega arith)
fit_cell widths (x ∷ xs) zero c lt is e =
    let size : length (x ∷ xs) - 0 ≡ 1 + length xs = omega arith in
    ap (λ k. is_fit widths k c) size ∙ (ap (is_fit widths (1 + length xs)) is ∙ (and_parts (is_fit widths (1 + length xs) x) (are_fit widths xs) e).0)
fit_cell widths (x ∷ xs) (suc i) c lt is e =
    let size : length (x ∷ xs) - suc i ≡ length xs - i = omega arith in
    ap (λ k. is_fit widths k c) size ∙ fit_cell widths xs i c (omega arith) is (and_parts (is_fit widths (1 + length xs) x) (are_fit widths xs) e).1

all_known_width : (widths : KnownWidths) (row : List Look) → are_fit widths row ≡ true → list_all (λ (c : Look). has_known_width widths c.symbol) row ≡ true
unfolding are_fit
all_known_width widths [] e = refl
all_known_width widths (c ∷ cs) e =
    let both = and_parts (is_fit widths (1 + length cs) c) (are_fit widths cs) e in
    and_from (has_known_width widths c.symbol) _ (fit_known_width widths (1 + length cs) c both.0) (all_known_width widths cs both.1)

-- only the changes are sent between two such rows
pub fit_sends : (widths : KnownWidths) (left : ℕ) (olds news : List Look) → are_fit widths olds ≡ true → are_fit widths news ≡ true →
    changes widths left (row_shown widths olds) (row_shown widths news) ≡ row_changes widths left olds news
fit_sends widths left olds news eo en =
    let calm = sym (known_width_calm widths left olds news (and_from _ _ (all_known_width widths olds eo) (all_known_width widths news en))) in
    sym (cond-true (is_calm_both widths left olds news) (changes widths left (row_shown widths olds) (row_shown widths news)) (in_full widths left (row_shown widths news)) calm)
