-- Fractions: `[num, den]`.
use Rattle.std.specs.Prelude.{ℕ, Bool, ◌&&◌, nat_le, nat_lt, if◌then◌else◌, Option, Some, None, option_map}
use Rattle.serde_json.specs.Data.{Data}
use Rattle.tui_layout.specs.declared.fraction.Fraction.{Fraction}
use Rattle.tui_json.specs.Members.{◌>>=◌, pair_of}
use Rattle.tui_json.specs.Number.{u64_of}

abbrev fraction : ℕ × ℕ → Fraction
fraction p = record { num = p.0; den = p.1 }

unfoldable pub fraction_of : Data → Option Fraction
fraction_of d = option_map fraction (pair_of u64_of u64_of d)

-- a share: at most 1, and with a denominator that is not 0
abbrev pub is_share : Fraction → Bool
is_share f = nat_lt 0 f.den && nat_le f.num f.den

unfoldable pub share_of : Data → Option Fraction
share_of d = do
  f ← fraction_of d
  if is_share f then Some f else None
