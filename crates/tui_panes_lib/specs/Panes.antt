-- Panes as a value.
use Rattle.std.specs.Prelude.{◌≡◌, Bool, List, length, map}
use Rattle.tui_cells.specs.declared.rect.Rect.{Rect}
use Rattle.tui_scene.specs.Item.{PlacedData}
use Rattle.tui_panes_lib.specs.Apart.{AreDisjointWithin}
use Rattle.tui_panes_lib.specs.Place.{PaneData, leaves_in}

-- the area of the panes, and the leaves in order, each with its rectangle
pub record PanesData : Type 0 where
  pub area : Rect
  pub leaves : List PlacedData

-- the panes of a tree, each leaf where it is placed in the area
abbrev pub panes_of : Rect → PaneData → PanesData
panes_of area pane = record { area = area; leaves = leaves_in area pane }

-- the areas of all leaves
abbrev pub rects_of : List PlacedData → List Rect
rects_of leaves = map (λ p. p.area) leaves

-- what is stored beside the leaves: their rectangles, which share no position and are inside the area, and a mark for
-- each
pub record AreConsistent (area : Rect) (rects : List Rect) (marks : List Bool) (leaves : List PlacedData) : Type 0 where
  pub rects_are : rects ≡ rects_of leaves
  pub apart : AreDisjointWithin area rects
  pub same_length : length marks ≡ length leaves
