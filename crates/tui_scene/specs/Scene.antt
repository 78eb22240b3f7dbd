-- A run over the widgets of a scene.
use Rattle.std.specs.Prelude.{◌≡◌, ℕ, Bool, ◌||◌, List, [], ◌∷◌, false, slice_index_or}
use Rattle.std.specs.List.{flat_map}
use Rattle.tui_cells.specs.declared.rect.Rect.{Rect}
use Rattle.tui_cells.specs.Rect.{area_of, intersection_of}
use Rattle.tui_cells.specs.Buffer.{Screen}
use Rattle.tui_cells.specs.Layers.{KeptOutside, Layer}
use Rattle.tui_scene.specs.Item.{PlacedData, clear, item_drawing, placed_footprint, placed_layers, stateless}

-- the default for an index past the end of a scene
abbrev pub no_widget : PlacedData
no_widget = record { area = area_of 0 0 0 0; item = stateless clear }

-- the widget at an index of a scene
abbrev pub placed_at : List PlacedData → ℕ → PlacedData
placed_at ps at = slice_index_or ps at no_widget

-- One step. The buffer's area, every cell outside the footprint and the widget's own area are unchanged. The screen
-- shows the widget, by its state before and after.
pub record DrawStep (old new : PlacedData) (before after : Screen) : Type 0 where
  pub kept : KeptOutside (placed_footprint before.area old) before after
  pub placed : new.area ≡ old.area
  pub shows : (item_drawing old.item).shows new.item (intersection_of old.area before.area) before after

-- a run: one step for each widget, in order, each from its own state, with a buffer between any two steps
abbrev pub DrawRun : List PlacedData → List PlacedData → Screen → Screen → Type 0
DrawRun [] [] first last = first ≡ last
DrawRun (p ∷ ps) (q ∷ qs) first last = (next : Screen) × (DrawStep p q first next × DrawRun ps qs next last)
DrawRun _ _ first last = ⊥

-- the strokes of all widgets in order
abbrev pub scene_layers : Rect → List PlacedData → List Layer
scene_layers area ps = flat_map (placed_layers area) ps

-- whether a position is in the footprint of any of the widgets
abbrev pub in_footprints : Rect → List PlacedData → ℕ → ℕ → Bool
in_footprints area [] x y = false
in_footprints area (p ∷ ps) x y = placed_footprint area p x y || in_footprints area ps x y
