-- What a drawing of widgets on a blank buffer gives.
use Rattle.std.specs.Prelude.{◌≡◌, ℕ, List, map}
use Rattle.tui_cells.specs.Buffer.{IsFilled, IsScreen, Screen}
use Rattle.tui_cells.specs.Cell.{blank}
use Rattle.tui_cells.specs.Layers.{Painted}
use Rattle.tui_cells.specs.Rect.{area_of}
use Rattle.tui_scene.specs.Item.{PlacedData, placed_after}
use Rattle.tui_scene.specs.Scene.{DrawRun, scene_layers}

-- A run over the widgets leads from the blank buffer of a size and the old states to this screen and the new states. In
-- addition, each cell is the blank one under the strokes of all widgets in order. Each state is the one that its widget
-- leaves. So no other screen and no other states are possible.
pub record IsDrawn (width height : ℕ) (old new : List PlacedData) (last : Screen) : Type 0 where
  pub first : Screen
  pub blank_first : IsFilled (area_of 0 0 width height) blank first
  pub run : DrawRun old new first last
  pub strokes : Painted (scene_layers first.area old) first last
  pub states : new ≡ map (placed_after first.area) old
  pub shape : IsScreen last
