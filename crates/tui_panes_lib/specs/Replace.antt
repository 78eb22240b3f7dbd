-- Replacing the widget of a leaf and redrawing the leaf.
use Rattle.std.specs.Prelude.{ℕ, Bool, ◌||◌, List, slice_set}
use Rattle.tui_cells.specs.declared.rect.Rect.{Rect}
use Rattle.tui_cells.specs.Buffer.{Screen}
use Rattle.tui_cells.specs.Cell.{wipe}
use Rattle.tui_cells.specs.Layers.{Painted, stroke}
use Rattle.tui_cells.specs.Rect.{covers}
use Rattle.tui_scene.specs.Item.{ItemData, PlacedData, placed_footprint, placed_layers}
use Rattle.tui_scene.specs.Scene.{DrawStep, placed_at}
use Rattle.tui_panes_lib.specs.Panes.{PanesData}

-- a widget with the rectangle of a leaf
abbrev pub item_in_leaf : List PlacedData → ℕ → ItemData → PlacedData
item_in_leaf leaves leaf item = record { area = (placed_at leaves leaf).area; item = item }

-- the panes with one leaf replaced
abbrev pub panes_with : PanesData → ℕ → PlacedData → PanesData
panes_with panes leaf p = record { area = panes.area; leaves = slice_set panes.leaves leaf p }

-- The area of a widget was reset, and then the widget was drawn there, which updated its state.
pub record IsRedrawn (p q : PlacedData) (before after : Screen) : Type 0 where
  pub reset : Screen
  pub is_reset : Painted (stroke (covers p.area) wipe) before reset
  pub strokes : Painted (placed_layers before.area p) reset after
  pub step : DrawStep p q reset after

-- the positions that this may change: the area and the footprint of the widget
abbrev pub touched : Rect → PlacedData → ℕ → ℕ → Bool
touched buffer p x y = covers p.area x y || placed_footprint buffer p x y
