-- Dates of the calendar.
use Rattle.std.proofs.Common.{◌≡◌, Bool, true, false, ◌&&◌, List, [], ◌∷◌, length, ℤ, pos, negsuc, ◌≤ℤ◌, None, Some, option_map, Result, Ok, Err, refl, ap, arith}
use Rattle.std.specs.Prelude.{int_le, unsigned_abs, IsOk, IfOk, ◌↔◌, if◌then◌else◌}
use Rattle.std.specs.Bool.{Decides}
use Rattle.std.specs.Result.{result_ok}
use Rattle.jiff_core.proofs.SignedLemmas.{signed_arith}
use Rattle.jiff_core.specs.Calendar.{IsBetween, IsDate, days_in_month}
use Rattle.jiff_core.specs.Date.{IsYmd}
use Rattle.jiff_core.specs.declared.civil.date.Date.{Date}
use Rattle.jiff_core.specs.declared.error.Error.{Error}
use Rattle.serde_json.specs.View.{items_view}
use Rattle.serde_json.specs.declared.value.Value.{Value}
use Rattle.tui_calendar.specs.Month.{date_data, date_of}
use Rattle.tui_schema.specs.Kinds.Date.{civil_of, date_in, has_day, is_between}

-- arrays of another length
pub three_other : (vs : List Value) → (length vs ≡ 3 → ⊥) → date_in (items_view vs) ≡ None
three_other [] h = refl
three_other (a ∷ []) h = refl
three_other (a ∷ b ∷ []) h = refl
three_other (a ∷ b ∷ c ∷ []) h = absurd (h refl)
three_other (a ∷ b ∷ c ∷ d ∷ vs) h = refl

below : (a b : ℤ) → Decides (int_le a b) (a ≤ℤ b)
below a b = (λ e. omega (arith, signed_arith, e), λ h. by_test (int_le a b) refl h)
  where
    by_test : (t : Bool) → int_le a b ≡ t → a ≤ℤ b → t ≡ true
    by_test true e h = refl
    by_test false e h = absurd (omega (arith, signed_arith, e, h))

both : {P Q : Type 0} (a b : Bool) → Decides a P → Decides b Q → Decides (a && b) (P × Q)
both true true p q = (λ e. (p.0 refl, q.0 refl), λ h. refl)
both true false p q = (λ e. cc, λ h. q.1 h.1)
both false b p q = (λ e. cc, λ h. p.1 h.0)

between : (low high n : ℤ) → Decides (is_between low high n) (IsBetween low high n)
between low high n = both (int_le low n) (int_le n high) (below low n) (below n high)

all_three : {P Q R : Type 0} (a b c : Bool) → Decides a P → Decides b Q → Decides c R → Decides (a && (b && c)) (P × Q × R)
all_three true b c p q r = let rest = both b c q r in (λ e. (p.0 refl, (rest.0 e).0, (rest.0 e).1), λ h. rest.1 (h.1, h.2))
all_three false b c p q r = (λ e. cc, λ h. p.1 h.0)

calendar : (y m d : ℤ) → Decides (has_day y m d) (IsDate y m d)
calendar y m d =
    all_three _ _ _ (between (negsuc 9998) (pos 9999) y) (between (pos 1) (pos 12) m) (between (pos 1) (pos (days_in_month y (unsigned_abs m))) d)

false_true : false ≡ true → ⊥
false_true e = cc

-- what the calendar returns for three numbers
pub civil : (y m d : ℤ) (r : Result Date Error) → (IsOk r ↔ IsDate y m d) → IfOk r (IsYmd y m d) → option_map date_data (result_ok r) ≡ civil_of y m d
unfolding civil_of
civil y m d (Ok x) ok value =
    let year : x.year ≡ y = value.0 in
    let month : x.month ≡ unsigned_abs m = ap unsigned_abs value.1 in
    let day : x.day ≡ unsigned_abs d = ap unsigned_abs value.2 in
    rw ((calendar y m d).1 (ok.0 refl), ← year, ← month, ← day) refl
civil y m d (Err e) ok value = none (has_day y m d) refl
  where
    none : (t : Bool) → has_day y m d ≡ t → None ≡ (if t then Some (date_of y (unsigned_abs m) (unsigned_abs d)) else None)
    none true e = absurd (false_true (ok.1 ((calendar y m d).0 e)))
    none false e = refl
