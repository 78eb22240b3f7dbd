-- Sets of borders: arrays of sides.
use Rattle.std.specs.Prelude.{ℕ, List, [], ◌∷◌, Option, Some, option_and_then, codes}
use Rattle.serde_json.specs.Data.{Data}
use Rattle.serde_json.specs.Find.{as_array, as_str}
use Rattle.tui_frames.specs.Borders.{borders_of, both_borders}
use Rattle.tui_frames.specs.declared.borders.Borders.{Borders}
use Rattle.tui_json.specs.Members.{◌>>=◌, named}
use Rattle.tui_schema.specs.Kinds.Joined.{joined_of}

-- the sides and their bits
abbrev pub side_names : List (List ℕ × ℕ)
side_names = (codes "top", 1) ∷ (codes "right", 2) ∷ (codes "bottom", 4) ∷ (codes "left", 8) ∷ []

unfoldable pub side_named : Data → Option Borders
side_named d = do
  name ← as_str d
  bits ← named side_names name
  Some (borders_of bits)

unfoldable pub sides_of : Data → Option Borders
sides_of d = option_and_then (joined_of both_borders side_named (borders_of 0)) (as_array d)
