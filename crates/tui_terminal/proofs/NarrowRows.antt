-- Rows of symbols of known width that take one column.
use Rattle.std.proofs.Common.{◌≡◌, ℕ, ◌+◌, Bool, true, false, not, List, [], ◌∷◌, ◌++◌, length, cond, refl, sym, ap, ◌∙◌, arith}
use Rattle.std.specs.Prelude.{Option, Some}
use Rattle.std.specs.List.{list_all}
use Rattle.std.proofs.lemmas.Bool.{and_from, and_parts, cond-false}
use Rattle.tui_cells.specs.Cell.{Look}
use Rattle.tui_text.specs.Visible.{PlacedCell}
use Rattle.tui_terminal_model.specs.declared.widths.KnownWidths.{KnownWidths}
use Rattle.tui_terminal_model.specs.Pieces.{next_cover, shown, shown_row, uncovered}
use Rattle.tui_terminal_model.specs.Symbols.{has_known_width}
use Rattle.tui_terminal_laws.specs.declared.wanted.Wanted.TheVariants.{Changed, UncertainWidth}
use Rattle.tui_terminal_laws.specs.Sent.{is_shown, row_shown, sent, sent_here}
use Rattle.tui_terminal.specs.Narrow.{is_narrow}
use Rattle.tui_terminal.proofs.NarrowLooks.{narrow_next, narrow_seen, narrow_known_width}
use Rattle.tui_terminal.proofs.Walking.{all_append}

abbrev narrow : KnownWidths → List Look → Bool
narrow widths row = list_all (λ c. is_narrow widths c.symbol) row

-- ---- each cell shows as it is

unfoldable pub map_some : List Look → List (Option Look)
map_some [] = []
map_some (c ∷ cs) = Some c ∷ map_some cs

pub narrow_shown : (widths : KnownWidths) (row : List Look) → narrow widths row ≡ true → shown_row widths uncovered row ≡ map_some row
unfolding shown_row map_some
narrow_shown widths [] e = refl
narrow_shown widths (c ∷ cs) e =
    let both = and_parts (is_narrow widths c.symbol) (narrow widths cs) e in
    let here : shown widths uncovered (1 + length cs) c ≡ Some c = narrow_seen widths (1 + length cs) c (omega arith) both.0 in
    let next : next_cover widths uncovered (1 + length cs) c ≡ uncovered = narrow_next widths (1 + length cs) c (omega arith) both.0 in
    (λ j. here j ∷ shown_row widths (next j) cs) ∙ ap (λ (os : List (Option Look)). Some c ∷ os) (narrow_shown widths cs both.1)

-- ---- no symbol of uncertain width

none_uncertain : (widths : KnownWidths) (left : ℕ) (row : List Look) → narrow widths row ≡ true → sent widths UncertainWidth left (map_some row) (map_some row) ≡ []
unfolding sent map_some
none_uncertain widths left [] e = refl
none_uncertain widths left (c ∷ cs) e =
    let both = and_parts (is_narrow widths c.symbol) (narrow widths cs) e in
    let here : sent_here widths UncertainWidth left (Some c) c ≡ [] = cond-false (not (has_known_width widths c.symbol)) _ [] (ap not (narrow_known_width widths c.symbol both.0)) in
    ap (λ (ps : List PlacedCell). ps ++ sent widths UncertainWidth (left + 1) (map_some cs) (map_some cs)) here ∙ none_uncertain widths (left + 1) cs both.1

pub narrow_sends : (widths : KnownWidths) (left : ℕ) (row : List Look) → narrow widths row ≡ true → [] ≡ sent widths UncertainWidth left (row_shown widths row) (row_shown widths row)
narrow_sends widths left row e =
    let is = narrow_shown widths row e in
    sym ((λ j. sent widths UncertainWidth left (is j) (is j)) ∙ none_uncertain widths left row e)

-- ---- no symbol of uncertain width appears or disappears

abbrev knows_widths : KnownWidths → PlacedCell → Bool
knows_widths widths p = has_known_width widths p.cell.symbol

known_width_here : (widths : KnownWidths) (wanted : Bool) (column : ℕ) (c : Look) → is_narrow widths c.symbol ≡ true →
    list_all (knows_widths widths) (cond wanted (record { column = column; cell = c } ∷ []) []) ≡ true
known_width_here widths true column c e = and_from (has_known_width widths c.symbol) true (narrow_known_width widths c.symbol e) refl
known_width_here widths false column c e = refl

pub calm_new : (widths : KnownWidths) (left : ℕ) (olds : List (Option Look)) (row : List Look) → narrow widths row ≡ true → list_all (knows_widths widths) (sent widths Changed left olds (map_some row)) ≡ true
unfolding sent map_some
calm_new widths left [] row e = refl
calm_new widths left (o ∷ os) [] e = refl
calm_new widths left (o ∷ os) (c ∷ cs) e =
    let both = and_parts (is_narrow widths c.symbol) (narrow widths cs) e in
    all_append widths (sent_here widths Changed left o c) (sent widths Changed (left + 1) os (map_some cs))
    ∙ and_from (list_all (knows_widths widths) (sent_here widths Changed left o c)) _ (known_width_here widths (not (is_shown o c)) left c both.0) (calm_new widths (left + 1) os cs both.1)
