-- Lemmas on a number in a range, a string of limited length, and an array of limited length.
use Rattle.std.proofs.Common.{◌≡◌, ℕ, ◌≤◌, Option, Some, None, option_and_then, arith}
use Rattle.std.proofs.lemmas.Bool.Decides.{nat_tests}
use Rattle.serde_json.specs.Data.{Data}
use Rattle.tui_json.specs.Number.{between, u16_of, within}

between_bounds : (low high n m : ℕ) → between low high n ≡ Some m → (low ≤ m) × (m ≤ high)
between_bounds low high n m e = grind (arith, nat_tests, e)

in_bounds : (low high m : ℕ) (read : Option ℕ) → option_and_then (between low high) read ≡ Some m → (low ≤ m) × (m ≤ high)
in_bounds low high m None e = cc
in_bounds low high m (Some n) e = between_bounds low high n m e

pub within_bounds : (low high m : ℕ) (d : Data) → within low high d ≡ Some m → (low ≤ m) × (m ≤ high)
unfolding within
within_bounds low high m d e = in_bounds low high m (u16_of d) e
