-- The texts of a month are printable.
use Rattle.std.proofs.Common.{◌≡◌, ℕ, ◌-◌, ◌<◌, zero, suc, Bool, true, get_or, List, [], ◌∷◌, ◌++◌, ℤ, pos, negsuc, refl, arith}
use Rattle.std.specs.Prelude.{codes, decimal}
use Rattle.std.specs.Fmt.{signed_decimal}
use Rattle.std.specs.List.{list_all}
use Rattle.std.proofs.lemmas.Bool.{and_parts}
use Rattle.std.proofs.lemmas.Bool.Decides.{nat_tests}
use Rattle.jiff_core.specs.Calendar.{IsYear}
use Rattle.jiff_core.specs.declared.civil.date.Date.{Date}
use Rattle.jiff_core.proofs.SignedLemmas.{signed_arith}
use Rattle.tui_clusters.specs.Printable.{is_printable}
use Rattle.tui_calendar.specs.Month.{date_data}
use Rattle.tui_calendar.specs.Monthly.{day_text, heading_text, month_name, month_names}
use Rattle.tui_text.proofs.AllocationFreeTexts.{both_printable, decimal_printable}

abbrev all_printable : List (List ℕ) → Bool
all_printable texts = list_all (λ text. list_all is_printable text) texts

one_printable : (texts : List (List ℕ)) (i : ℕ) → all_printable texts ≡ true → list_all is_printable (get_or texts i []) ≡ true
one_printable [] i e = refl
one_printable (t ∷ ts) zero e = (and_parts (list_all is_printable t) _ e).0
one_printable (t ∷ ts) (suc i) e = one_printable ts i (and_parts (list_all is_printable t) _ e).1

name_printable : (month : ℕ) → list_all is_printable (month_name month) ≡ true
name_printable month = one_printable month_names (month - 1) refl

year_printable : (year : ℤ) → IsYear year → list_all is_printable (signed_decimal year) ≡ true
year_printable (pos n) y = decimal_printable n (omega (arith, signed_arith, y))
year_printable (negsuc n) y = both_printable (45 ∷ []) (decimal (suc n)) refl (decimal_printable (suc n) (omega (arith, signed_arith, y)))

pub heading_printable : (d : Date) → list_all is_printable (heading_text (date_data d)) ≡ true
unfolding heading_text
heading_printable d =
    both_printable (month_name d.month) (codes " " ++ signed_decimal d.year) (name_printable d.month)
    (both_printable (codes " ") (signed_decimal d.year) refl (year_printable d.year d.year_in))

pub day_printable : (day : ℕ) → day < 100 → list_all is_printable (day_text day) ≡ true
unfolding day_text
day_printable day lt = grind (arith, nat_tests)
