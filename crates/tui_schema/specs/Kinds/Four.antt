-- Arrays of four numbers.
use Rattle.std.specs.Prelude.{ℕ, Option, Some, None, option_and_then}
use Rattle.serde_json.specs.Data.{Data, Items, no_items, item}
use Rattle.serde_json.specs.Find.{as_array}
use Rattle.tui_json.specs.Members.{◌>>=◌}
use Rattle.tui_json.specs.Number.{u16_of}

abbrev pub four_in : Items → Option (ℕ × ℕ × ℕ × ℕ)
four_in (item a (item b (item c (item d no_items)))) = do
  first ← u16_of a
  second ← u16_of b
  third ← u16_of c
  fourth ← u16_of d
  Some (first, second, third, fourth)
four_in _ = None

-- four numbers below 2^16
unfoldable pub four_of : Data → Option (ℕ × ℕ × ℕ × ℕ)
four_of d = option_and_then four_in (as_array d)
