-- Drawing leaves in an order.
use Rattle.std.specs.Prelude.{◌≡◌, ℕ, All, List, Some, length, map, slice_get}
use Rattle.tui_cells.specs.declared.rect.Rect.{Rect}
use Rattle.tui_cells.specs.Buffer.{Screen}
use Rattle.tui_scene.specs.Draw.{Stopped}
use Rattle.tui_scene.specs.Item.{PlacedData, placed_after}
use Rattle.tui_scene.specs.Scene.{placed_at}
use Rattle.tui_scene.specs.Shadow.{HasNoShadow}
use Rattle.tui_panes_lib.specs.Panes.{PanesData}
use Rattle.tui_panes_lib.specs.declared.order_error.OrderError.{OrderError}
use Rattle.tui_panes_lib.specs.declared.order_error.OrderError.TheVariants.{NoMemory, NotOrder}

-- no leaf has a shadow
abbrev pub HaveNoShadow : List PlacedData → Type 0
HaveNoShadow leaves = All (λ p. HasNoShadow p.item) leaves

-- the leaves with these numbers, in the order of the list
abbrev pub in_order : List ℕ → List PlacedData → List PlacedData
in_order order leaves = map (placed_at leaves) order

-- the panes after a drawing in a buffer with this area, which updates the states of the leaves
abbrev pub panes_after : Rect → PanesData → PanesData
panes_after buffer panes = record { area = panes.area; leaves = map (placed_after buffer) panes.leaves }

-- A drawing of leaves in an order that stopped at a leaf: the drawing of the scene that has the leaves in this order
-- stopped at the index of that leaf.
pub record StoppedAt (order : List ℕ) (old new : List PlacedData) (before after : Screen) (leaf : ℕ) : Type 0 where
  pub place : ℕ
  pub here : slice_get order place ≡ Some leaf
  pub stopped : Stopped (in_order order old) (in_order order new) before after place
  pub same_length : length new ≡ length old

-- what the error of a drawing of leaves means
abbrev pub StoppedInOrder : List ℕ → List PlacedData → List PlacedData → Screen → Screen → OrderError → Type 0
StoppedInOrder order old new before after NotOrder = ⊥
StoppedInOrder order old new before after (NoMemory leaf) = StoppedAt order old new before after leaf
