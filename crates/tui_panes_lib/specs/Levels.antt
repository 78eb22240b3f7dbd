-- How many levels a tree of panes has.
use Rattle.std.specs.Prelude.{ℕ, ◌+◌, max}
use Rattle.tui_panes_lib.specs.Place.{PaneData, PartsData, leaf, split, no_parts, part}

-- a leaf has one level; a split has one level more than the deepest of its parts
unfoldable mutual
  pub levels : PaneData → ℕ
  levels (leaf item) = 1
  levels (split direction spacing flex parts) = parts_levels parts + 1

  pub parts_levels : PartsData → ℕ
  parts_levels no_parts = 0
  parts_levels (part size pane parts) = max (levels pane) (parts_levels parts)
