-- Whole numbers and booleans.
use Rattle.std.specs.Prelude.{ℕ, ℤ, pos, negsuc, ◌^◌, ◌&&◌, Option, Some, None, option_and_then, nat_le, nat_lt, if◌then◌else◌}
use Rattle.serde_json.specs.Data.{Data}
use Rattle.serde_json.specs.Find.{as_i64, as_number, as_u64}

-- a whole number below 2^64; a number written with a fraction or an exponent is not one
abbrev pub u64_of : Data → Option ℕ
u64_of d = option_and_then as_u64 (as_number d)

-- a number below a limit
abbrev pub below : ℕ → ℕ → Option ℕ
below limit n = if nat_lt n limit then Some n else None

-- a whole number below 2^16
unfoldable pub u16_of : Data → Option ℕ
u16_of d = option_and_then (below 65536) (u64_of d)

-- a whole number below 2^32
unfoldable pub u32_of : Data → Option ℕ
u32_of d = option_and_then (below (2 ^ 32)) (u64_of d)

-- a number in a range, with both its ends
abbrev pub between : ℕ → ℕ → ℕ → Option ℕ
between low high n = if nat_le low n && nat_le n high then Some n else None

-- a whole number in a range that ends below 2^16
unfoldable pub within : ℕ → ℕ → Data → Option ℕ
within low high d = option_and_then (between low high) (u16_of d)

-- a number from -limit up to limit - 1
abbrev pub in_signed : ℕ → ℤ → Option ℤ
in_signed limit (pos n) = if nat_lt n limit then Some (pos n) else None
in_signed limit (negsuc n) = if nat_lt n limit then Some (negsuc n) else None

-- a whole number from -limit up to limit - 1
abbrev pub signed_of : ℕ → Data → Option ℤ
signed_of limit d = option_and_then (in_signed limit) (option_and_then as_i64 (as_number d))

-- signed whole numbers of 8, 16 and 32 bits
unfoldable pub i8_of : Data → Option ℤ
i8_of = signed_of 128

unfoldable pub i16_of : Data → Option ℤ
i16_of = signed_of (2 ^ 15)

unfoldable pub i32_of : Data → Option ℤ
i32_of = signed_of (2 ^ 31)
