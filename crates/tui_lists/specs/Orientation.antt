-- The sides at which a scrollbar is drawn.
use Rattle.std.specs.Prelude.{ℕ, ◌+◌, ◌-◌, min, Bool, true, false, List, codes, if◌then◌else◌}
use Rattle.tui_cells.specs.Rect.{farthest_edge}
use Rattle.tui_cells.specs.declared.position.Position.{Position}
use Rattle.tui_cells.specs.declared.rect.Rect.{Rect}
use Rattle.tui_cells.specs.Symbols.{ScrollbarData, double_horizontal_scrollbar, double_vertical_scrollbar}
use Rattle.tui_lists.specs.declared.scrollbar.orientation.ScrollbarOrientation.{ScrollbarOrientation}
use Rattle.tui_lists.specs.declared.scrollbar.orientation.ScrollbarOrientation.TheVariants.{VerticalRight, VerticalLeft, HorizontalBottom, HorizontalTop}

-- the name of a variant
abbrev pub name_of : ScrollbarOrientation → List ℕ
name_of VerticalRight = codes "VerticalRight"
name_of VerticalLeft = codes "VerticalLeft"
name_of HorizontalBottom = codes "HorizontalBottom"
name_of HorizontalTop = codes "HorizontalTop"

-- whether the bar is a column
abbrev pub is_vertical : ScrollbarOrientation → Bool
is_vertical VerticalRight = true
is_vertical VerticalLeft = true
is_vertical HorizontalBottom = false
is_vertical HorizontalTop = false

-- the symbols of double lines and arrows
abbrev pub double_symbols : ScrollbarOrientation → ScrollbarData
double_symbols o = if is_vertical o then double_vertical_scrollbar else double_horizontal_scrollbar

-- a coordinate plus n, at most 65535, where no clip has a cell
abbrev pub moved_by : ℕ → ℕ → ℕ
moved_by place n = min (place + n) farthest_edge

-- the position of cell i of the bar, which is the last column, the first column, the last row or the first row
abbrev pub along : ScrollbarOrientation → Rect → ℕ → Position
along VerticalRight c i = record { x = moved_by c.x (c.width - 1); y = moved_by c.y i }
along VerticalLeft c i = record { x = c.x; y = moved_by c.y i }
along HorizontalBottom c i = record { x = moved_by c.x i; y = moved_by c.y (c.height - 1) }
along HorizontalTop c i = record { x = moved_by c.x i; y = c.y }

-- the length of the bar, in cells
abbrev pub length_along : ScrollbarOrientation → Rect → ℕ
length_along o c = if is_vertical o then c.height else c.width
