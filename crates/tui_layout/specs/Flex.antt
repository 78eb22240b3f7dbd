-- The names of the flex variants.
use Rattle.std.specs.Prelude.{ℕ, List, codes}
use Rattle.tui_layout.specs.declared.flex.Flex.{Flex}
use Rattle.tui_layout.specs.declared.flex.Flex.TheVariants.{Legacy, Start, End, Center, SpaceBetween, SpaceEvenly, SpaceAround}

-- the name of a variant
abbrev pub name_of : Flex → List ℕ
name_of Legacy = codes "Legacy"
name_of Start = codes "Start"
name_of End = codes "End"
name_of Center = codes "Center"
name_of SpaceBetween = codes "SpaceBetween"
name_of SpaceEvenly = codes "SpaceEvenly"
name_of SpaceAround = codes "SpaceAround"
