-- Modifiers: arrays of names.
use Rattle.std.specs.Prelude.{ℕ, List, [], ◌∷◌, Option, Some, option_and_then, codes}
use Rattle.serde_json.specs.Data.{Data}
use Rattle.serde_json.specs.Find.{as_array, as_str}
use Rattle.tui_cells.specs.declared.modifier.Modifier.{Modifier}
use Rattle.tui_cells.specs.Style.{both_modifiers, no_modifier}
use Rattle.tui_json.specs.Members.{◌>>=◌, named}
use Rattle.tui_schema.specs.Kinds.Joined.{joined_of}

-- the names and their bits
abbrev pub modifier_names : List (List ℕ × ℕ)
modifier_names =
    (codes "bold", 1) ∷ (codes "dim", 2) ∷ (codes "italic", 4) ∷ (codes "underlined", 8) ∷ (codes "slow_blink", 16)
    ∷ (codes "rapid_blink", 32) ∷ (codes "reversed", 64) ∷ (codes "hidden", 128) ∷ (codes "crossed_out", 256) ∷ []

unfoldable pub modifier_named : Data → Option Modifier
modifier_named d = do
  name ← as_str d
  bits ← named modifier_names name
  Some (record { bits = bits })

unfoldable pub modifiers_of : Data → Option Modifier
modifiers_of d = option_and_then (joined_of both_modifiers modifier_named no_modifier) (as_array d)
