-- The laws of a bar's ticks.
use Rattle.std.proofs.Common.{◌≡◌, ◌≤◌, ◌<◌, ℕ, zero, suc, ◌*◌, ◌/◌, ◌==◌, min, Bool, true, false, if◌then◌else◌, arith}
use Rattle.std.proofs.Math.Nat.{div-mul-le_self, mul-le-mul_right, le-div_iff_mul-le}
use Rattle.std.proofs.lemmas.Bool.Decides.{nat_tests}
use Rattle.tui_bars.specs.Levels.{TickLaws, ticks}

quotient_grows : (a c b : ℕ) → 0 < b → a ≤ c → a / b ≤ c / b
quotient_grows a c b some le =
    let h : a / b * b ≤ c = omega (arith, div-mul-le_self a b) in (le-div_iff_mul-le {k = b} {x = a / b} {y = c} some).1 h

chosen : (none : Bool) (a c whole : ℕ) → a ≤ c → (if none then 0 else min whole a) ≤ (if none then 0 else min whole c)
chosen true a c whole le = omega arith
chosen false a c whole le = omega arith

ordered : (greatest a c whole : ℕ) → a ≤ c → (if greatest == 0 then 0 else min whole (a / greatest)) ≤ (if greatest == 0 then 0 else min whole (c / greatest))
ordered zero a c whole le = omega arith
ordered (suc greatest) a c whole le =
    chosen (suc greatest == 0) (a / suc greatest) (c / suc greatest) whole (quotient_grows a c (suc greatest) (omega arith) le)

reached : (greatest a whole : ℕ) → 0 < greatest → whole ≤ a → (if greatest == 0 then 0 else min whole a) ≡ whole
reached greatest a whole some le = grind (arith, nat_tests)

pub tick_laws : TickLaws
unfolding ticks
tick_laws = record {
  monotone = λ greatest value more length le. ordered greatest _ _ (8 * length) (mul-le-mul_right (8 * length) le);
  full = λ greatest value length some le.
      let whole : 8 * length * greatest ≤ value * (8 * length) = grind (arith, mul-le-mul_right {m = greatest} {n = value} (8 * length) le) in
      reached greatest _ (8 * length) some ((le-div_iff_mul-le {k = greatest} {x = 8 * length} {y = value * (8 * length)} some).1 whole);
}
