-- The space inside a block.
use Rattle.std.specs.Prelude.{ℕ, ◌+◌, ◌-◌, ◌≤◌, min, Bool, ◌||◌, if◌then◌else◌}
use Rattle.tui_cells.specs.declared.rect.Rect.{Rect}
use Rattle.tui_cells.specs.Rect.{bottom_of, right_of, farthest_edge}
use Rattle.tui_frames.specs.Block.{BlockData}
use Rattle.tui_frames.specs.Borders.{bottom, has, left, right, top}
use Rattle.tui_frames.specs.Titles.{has_title}
use Rattle.tui_frames.specs.declared.title_position.TitlePosition.TheVariants.{Top, Bottom}

-- 1 if something is there, else 0
abbrev pub count : Bool → ℕ
count is_set = if is_set then 1 else 0

-- a coordinate moved by n columns or rows, at most 65535
abbrev pub past : ℕ → ℕ → ℕ
past place n = min (place + n) farthest_edge

-- the columns that the border takes at the left
abbrev pub left_edge : BlockData → ℕ
left_edge b = count (has b.borders left)

-- the columns that the border takes at the right
abbrev pub right_edge : BlockData → ℕ
right_edge b = count (has b.borders right)

-- the rows that the border and titles take at the top
abbrev pub top_edge : BlockData → ℕ
top_edge b = count (has b.borders top || has_title b Top)

-- the rows that the border and titles take at the bottom
abbrev pub bottom_edge : BlockData → ℕ
bottom_edge b = count (has b.borders bottom || has_title b Bottom)

-- the area inside a block: its corner moves by the edges at the left and at the top, but not past the end of the area,
-- and then by the padding; its sizes lose the edges and the padding on both sides
abbrev pub inner : BlockData → Rect → Rect
inner b area = record {
  x = past (min (area.x + left_edge b) (right_of area)) b.padding.left;
  y = past (min (area.y + top_edge b) (bottom_of area)) b.padding.top;
  width = area.width - (left_edge b + right_edge b) - (b.padding.left + b.padding.right);
  height = area.height - (top_edge b + bottom_edge b) - (b.padding.top + b.padding.bottom);
}

-- the rows that a block takes around its content; those above and those below are each cut at the farthest edge
abbrev pub rows_around : BlockData → ℕ
rows_around b = min (b.padding.top + top_edge b) farthest_edge + min (b.padding.bottom + bottom_edge b) farthest_edge

-- likewise for columns
abbrev pub columns_around : BlockData → ℕ
columns_around b = min (b.padding.left + left_edge b) farthest_edge + min (b.padding.right + right_edge b) farthest_edge

-- an area within another one, where edges are cut at 65535
pub record LiesIn (inside area : Rect) : Type 0 where
  pub from_left : area.x ≤ inside.x
  pub from_top : area.y ≤ inside.y
  pub to_right : right_of inside ≤ right_of area
  pub to_bottom : bottom_of inside ≤ bottom_of area
