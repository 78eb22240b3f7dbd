-- The numbers of bars are written without allocating: their texts are printable.
use Rattle.std.proofs.Common.{◌≡◌, ℕ, ◌<◌, ◌^◌, zero, suc, Bool, true, false, List, [], ◌∷◌, ◌++◌, drop, nat_lt, if◌then◌else◌, refl}
use Rattle.std.specs.Prelude.{codes, decimal}
use Rattle.std.specs.List.{list_all}
use Rattle.std.proofs.lemmas.Bool.{and_parts}
use Rattle.tui_layout.specs.declared.direction.Direction.{Direction}
use Rattle.tui_layout.specs.declared.direction.Direction.TheVariants.{Horizontal, Vertical}
use Rattle.tui_clusters.specs.Printable.{is_printable}
use Rattle.tui_text.specs.Setting.{AreAllocationFree}
use Rattle.tui_text.specs.Span.{raw_span}
use Rattle.tui_text.proofs.AllocationFreeTexts.{both_printable, clusters_allocation_free, decimal_printable, printable_allocation_free}
use Rattle.tui_bars.specs.AllocationFreeCharts.{IsAllocationFreeText}
use Rattle.tui_bars.specs.Percent.{padded}

rest_printable : (k : ℕ) (text : List ℕ) → list_all is_printable text ≡ true → list_all is_printable (drop k text) ≡ true
rest_printable zero text e = e
rest_printable (suc k) [] e = refl
rest_printable (suc k) (b ∷ bs) e = rest_printable k bs (and_parts (is_printable b) _ e).1

-- the decimal of a bar's value
pub decimal_allocation_free : (direction : Direction) (n : ℕ) → n < 10 ^ 64 → IsAllocationFreeText direction (decimal n)
decimal_allocation_free Vertical n lt = clusters_allocation_free (decimal n) (decimal_printable n lt)
decimal_allocation_free Horizontal n lt = λ place begins. clusters_allocation_free (drop place (decimal n)) (rest_printable place (decimal n) (decimal_printable n lt))

pub percent_allocation_free : (n : ℕ) → n < 10 ^ 64 → AreAllocationFree (raw_span (decimal n ++ codes "%") ∷ [])
percent_allocation_free n lt = printable_allocation_free _ (both_printable (decimal n) (codes "%") (decimal_printable n lt) refl)

blank_printable : (b : Bool) → list_all is_printable (if b then codes " " else []) ≡ true
blank_printable true = refl
blank_printable false = refl

pub padded_allocation_free : (n : ℕ) → n < 10 ^ 64 → AreAllocationFree (raw_span (padded n) ∷ [])
padded_allocation_free n lt =
    let first = if nat_lt n 100 then codes " " else [] in
    let second = if nat_lt n 10 then codes " " else [] in
    let blanks = both_printable first second (blank_printable (nat_lt n 100)) (blank_printable (nat_lt n 10)) in
    printable_allocation_free (first ++ second ++ decimal n ++ codes "%")
    (both_printable (first ++ second ++ decimal n) (codes "%") (both_printable (first ++ second) (decimal n) blanks (decimal_printable n lt)) refl)
