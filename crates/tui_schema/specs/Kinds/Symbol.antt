-- Symbols: short strings for cells.
use Rattle.std.specs.Prelude.{ℕ, List, length, Bool, not, ◌&&◌, ◌||◌, nat_lt, nat_le, if◌then◌else◌, Option, Some, None, option_and_then}
use Rattle.std.specs.List.{list_all}
use Rattle.std.specs.Str.{chars}
use Rattle.serde_json.specs.Data.{Data}
use Rattle.serde_json.specs.Find.{as_str}

-- U+0000 to U+001F and U+007F to U+009F
abbrev pub is_control : ℕ → Bool
is_control c = nat_lt c 32 || (nat_le 127 c && nat_lt c 160)

-- a string of at most 32 bytes without control characters
unfoldable pub is_symbol : List ℕ → Bool
is_symbol s = nat_le (length s) 32 && list_all (λ c. not (is_control c)) (chars s)

unfoldable pub symbol_of : Data → Option (List ℕ)
symbol_of d = option_and_then (λ s. if is_symbol s then Some s else None) (as_str d)
