-- The names of directions.
use Rattle.std.specs.Prelude.{ℕ, List, codes}
use Rattle.tui_layout.specs.declared.direction.Direction.{Direction}
use Rattle.tui_layout.specs.declared.direction.Direction.TheVariants.{Horizontal, Vertical}

-- the name of a variant
abbrev pub name_of : Direction → List ℕ
name_of Horizontal = codes "Horizontal"
name_of Vertical = codes "Vertical"
