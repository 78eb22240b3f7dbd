-- The screen of panes, and its print.
use Rattle.std.specs.Prelude.{◌≡◌, ℕ, List, [], ◌∷◌, length, map, slice_set}
use Rattle.tui_cells.specs.declared.rect.Rect.{Rect}
use Rattle.tui_cells.specs.Buffer.{IsFilled, IsScreen, Screen}
use Rattle.tui_cells.specs.Cell.{blank}
use Rattle.tui_cells.specs.Rect.{area_of}
use Rattle.tui_print.specs.Print.{IsPrint}
use Rattle.tui_scene.specs.Item.{PlacedData, placed_after}
use Rattle.tui_scene.specs.Laws.{Draws}
use Rattle.tui_scene.specs.Scene.{DrawRun, placed_at}
use Rattle.tui_panes_lib.specs.Draw.{in_order}
use Rattle.tui_panes_lib.specs.Replace.{IsRedrawn, item_in_leaf}
use Rattle.tui_panes_lib.specs.Place.{leaves_in}
use Rattle.tui_panes_run.specs.Changes.{ChangeData}
use Rattle.tui_panes_run.specs.Input.{InputData}
use Rattle.tui_panes_run.specs.Order.{numbers_of}
use Rattle.tui_panes_run.specs.declared.order.Order.{Order}

-- the area of the screen
abbrev pub screen_area : InputData → Rect
screen_area input = area_of 0 0 input.size.width input.size.height

-- the leaves of the tree in their rectangles
abbrev pub leaves_of : InputData → List PlacedData
leaves_of input = leaves_in (screen_area input) input.root

-- the leaves after a change; the new widget has the state that its drawing leaves
abbrev pub changed : Rect → List PlacedData → ChangeData → List PlacedData
changed buffer leaves c = slice_set leaves c.leaf (placed_after buffer (item_in_leaf leaves c.leaf c.item))

-- Changes one after another: for each, the rectangle of its leaf is reset, and the widget is drawn there.
abbrev pub AreChanged : List PlacedData → Screen → List ChangeData → List PlacedData → Screen → Type 0
AreChanged leaves before [] last after = (last ≡ leaves) × (after ≡ before)
AreChanged leaves before (c ∷ cs) last after = (next : Screen)
    × IsRedrawn (item_in_leaf leaves c.leaf c.item) (placed_at (changed before.area leaves c) c.leaf) before next
    × AreChanged (changed before.area leaves c) next cs last after

-- All leaves were drawn in an order on a blank buffer, and then changed.
pub record ArePanesDrawn (order : List ℕ) (area : Rect) (leaves : List PlacedData) (changes : List ChangeData) (last : List PlacedData)
    (after : Screen) : Type 0 where
  pub first : Screen
  pub blank_first : IsFilled area blank first
  pub drawn : Screen
  pub moved : List PlacedData
  pub run : DrawRun (in_order order leaves) (in_order order moved) first drawn
  pub strokes : Draws (in_order order leaves) (in_order order moved) first drawn
  pub states : moved ≡ map (placed_after area) leaves
  pub changed : AreChanged moved drawn changes last after
  pub shape : IsScreen after

-- the print of the screen, and of the leaves with their final states
pub record ArePanesShown (order : Order) (input : InputData) (text : List ℕ) : Type 0 where
  pub last : List PlacedData
  pub screen : Screen
  pub drawn : ArePanesDrawn (numbers_of order (length (leaves_of input))) (screen_area input) (leaves_of input) input.changes last screen
  pub is_print : IsPrint screen last text
