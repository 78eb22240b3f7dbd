-- Texts of printable bytes do not allocate: each of their graphemes is one byte.
use Rattle.std.proofs.Common.{◌≡◌, ℕ, ◌+◌, ◌%◌, ◌<◌, ◌^◌, true, List, [], ◌∷◌, ◌++◌, All, map, refl, arith}
use Rattle.std.specs.Prelude.{decimal}
use Rattle.std.specs.List.{list_all}
use Rattle.std.proofs.lemmas.Bool.Decides.{nat_tests}
use Rattle.std.proofs.lemmas.Fmt.{decimal_by_steps_wide}
use Rattle.std.proofs.lemmas.List.Elements.{All-cons}
use Rattle.std.proofs.lemmas.List.Folds.{list_all-append}
use Rattle.tui_cells.specs.Cell.{IsAllocationFree}
use Rattle.tui_cells.specs.declared.style.Style.{Style}
use Rattle.tui_clusters.specs.Shown.{clusters, one_byte}
use Rattle.tui_clusters.specs.Printable.{is_printable}
use Rattle.tui_text.specs.Setting.{AreAllocationFree, styled_text}
use Rattle.tui_text.specs.Span.{raw_span}
use Rattle.tui_clusters.proofs.Runs.{printable_clusters}

none : {X : Type 0} (P : X → Type 0) → All P []
none P k d lt = absurd (omega arith)

bytes_allocation_free : (text : List ℕ) → All IsAllocationFree (map one_byte text)
bytes_allocation_free [] = none IsAllocationFree
bytes_allocation_free (b ∷ bs) = All-cons IsAllocationFree (b ∷ []) (map one_byte bs) (omega arith) (bytes_allocation_free bs)

pub clusters_allocation_free : (text : List ℕ) → list_all is_printable text ≡ true → All IsAllocationFree (clusters text)
clusters_allocation_free text e = rw (printable_clusters text e) (bytes_allocation_free text)

-- a text whose graphemes do not allocate, as a span
pub allocation_free_styled : (text : List ℕ) (style : Style) → All IsAllocationFree (clusters text) → AreAllocationFree (styled_text text style)
allocation_free_styled text style allocation_free = All-cons (λ s. All IsAllocationFree (clusters s.content)) _ [] allocation_free (none _)

pub printable_allocation_free : (text : List ℕ) → list_all is_printable text ≡ true → AreAllocationFree (raw_span text ∷ [])
printable_allocation_free text e = All-cons (λ s. All IsAllocationFree (clusters s.content)) (raw_span text) [] (clusters_allocation_free text e) (none _)

pub printable_styled : (text : List ℕ) (style : Style) → list_all is_printable text ≡ true → AreAllocationFree (styled_text text style)
printable_styled text style e = allocation_free_styled text style (clusters_allocation_free text e)

pub both_printable : (s t : List ℕ) → list_all is_printable s ≡ true → list_all is_printable t ≡ true → list_all is_printable (s ++ t) ≡ true
both_printable s t d e = rw (list_all-append is_printable s t, d, e) refl

digit_printable : (n : ℕ) → n < 10 → list_all is_printable ((48 + n) ∷ []) ≡ true
digit_printable n lt = grind (arith, nat_tests)

pub decimal_printable : (n : ℕ) → n < 10 ^ 64 → list_all is_printable (decimal n) ≡ true
decimal_printable = decimal_by_steps_wide (λ m ds. list_all is_printable ds ≡ true) (λ m lt. digit_printable m lt)
    (λ m ds lt h. both_printable ds _ h (digit_printable (m % 10) (omega arith)))
