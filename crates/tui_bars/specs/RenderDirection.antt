-- The names of the render directions.
use Rattle.std.specs.Prelude.{ℕ, List, codes}
use Rattle.tui_bars.specs.declared.render_direction.RenderDirection.{RenderDirection}
use Rattle.tui_bars.specs.declared.render_direction.RenderDirection.TheVariants.{LeftToRight, RightToLeft}

-- the name of a variant
abbrev pub name_of : RenderDirection → List ℕ
name_of LeftToRight = codes "LeftToRight"
name_of RightToLeft = codes "RightToLeft"
