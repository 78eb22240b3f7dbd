-- Shares of a rest.
use Rattle.std.proofs.Common.{ℕ, ◌*◌, ◌/◌, ◌<◌, ◌≤◌, arith}
use Rattle.std.proofs.Math.Nat.{div-le_of_le-mul, div-mul-le_self, mul-le-mul_left}
use Rattle.std.proofs.lemmas.Nat.{le-div}

pub share_small : (r x a : ℕ) → x ≤ a → r * x / a ≤ r
share_small r x a h = div-le_of_le-mul a (omega (arith, mul-le-mul_left r h))

pub share_grows : (r x y a : ℕ) → 0 < a → x ≤ y → r * x / a ≤ r * y / a
share_grows r x y a p h = le-div (r * x / a) (r * y) a p (omega (arith, div-mul-le_self (r * x) a, mul-le-mul_left r h))
