-- The cells around a base, by their side.
use Rattle.std.specs.Prelude.{◌-◌}
use Rattle.tui_cells.specs.declared.rect.Rect.{Rect}
use Rattle.tui_cells.specs.Rect.{bottom_of, right_of, farthest_edge}
use Rattle.tui_frames.specs.declared.shadow.parts.Side.{Side}
use Rattle.tui_frames.specs.declared.shadow.parts.Side.TheVariants.{Above, Below, LeftOf, RightOf}

-- all cells on one side of a base; the sides to its left and right have only its rows
abbrev pub side_of : Rect → Side → Rect
side_of base Above = record { x = 0; y = 0; width = farthest_edge; height = base.y }
side_of base Below = record { x = 0; y = bottom_of base; width = farthest_edge; height = farthest_edge - bottom_of base }
side_of base LeftOf = record { x = 0; y = base.y; width = base.x; height = base.height }
side_of base RightOf = record { x = right_of base; y = base.y; width = farthest_edge - right_of base; height = base.height }
