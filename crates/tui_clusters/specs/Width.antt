-- The widths of texts, in columns.
use Rattle.std.specs.Prelude.{ℕ, ◌-◌, ◌^◌, min, Bool, false, List, chars}
use Rattle.unicode_width.specs.Width.{str_width}

-- the width of a text in columns by UAX #11, cut at 65535; if `cjk` is true, ambiguous characters are wide
unfoldable pub columns_of : Bool → List ℕ → ℕ
columns_of cjk text = min (str_width cjk (chars text)) 65535

-- the width of a text in which ambiguous characters are narrow
unfoldable pub width_of : List ℕ → ℕ
width_of text = columns_of false text

-- a number, cut at 2 ^ 64 - 1
abbrev pub saturated : ℕ → ℕ
saturated n = min n (2 ^ 64 - 1)
