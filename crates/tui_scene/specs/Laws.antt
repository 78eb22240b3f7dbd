-- Laws of drawings.
use Rattle.std.specs.Prelude.{◌≡◌, ℕ, ◌&&◌, List, ◌∷◌, ◌++◌, map, false, true}
use Rattle.tui_cells.specs.declared.rect.Rect.{Rect}
use Rattle.tui_cells.specs.Buffer.{Screen, cell_at}
use Rattle.tui_cells.specs.Layers.{Painted}
use Rattle.tui_cells.specs.Rect.{covers, intersection_of, is_empty}
use Rattle.tui_scene.specs.Item.{PlacedData, placed_after, placed_footprint, placed_layers}
use Rattle.tui_scene.specs.Drawn.{IsDrawn}
use Rattle.tui_scene.specs.Scene.{scene_layers}

-- two buffers with the same area that agree at a position agree there after the same drawing
abbrev pub AgreementIsKept : Type 0
AgreementIsKept = (ps : List PlacedData) (a b after_a after_b : Screen) (x y : ℕ) →
    a.area ≡ b.area → cell_at a x y ≡ cell_at b x y →
    Painted (scene_layers a.area ps) a after_a → Painted (scene_layers b.area ps) b after_b →
    cell_at after_a x y ≡ cell_at after_b x y

-- a drawing of widgets: the cells and the states after it
pub record Draws (old new : List PlacedData) (before after : Screen) : Type 0 where
  pub cells : Painted (scene_layers before.area old) before after
  pub states : new ≡ map (placed_after before.area) old

-- two lists that are the same except that two neighbours are swapped
pub record AreSwapped (first second : List PlacedData) : Type 0 where
  pub before : List PlacedData
  pub one : PlacedData
  pub other : PlacedData
  pub following : List PlacedData
  pub first_is : first ≡ before ++ one ∷ other ∷ following
  pub second_is : second ≡ before ++ other ∷ one ∷ following

-- Two neighbours anywhere in a scene whose footprints share no position of the buffer may be drawn in either order: the
-- cells are the same, and so are the states, swapped like the widgets.
abbrev pub DisjointItemsCommute : Type 0
DisjointItemsCommute = (ps : List PlacedData) (p q : PlacedData) (qs first second : List PlacedData) (a b c : Screen) →
    ((x y : ℕ) → covers a.area x y ≡ true → (placed_footprint a.area p x y && placed_footprint a.area q x y) ≡ false) →
    Draws (ps ++ p ∷ q ∷ qs) first a b → Draws (ps ++ q ∷ p ∷ qs) second a c →
    ((x y : ℕ) → cell_at b x y ≡ cell_at c x y) × AreSwapped first second

-- widgets that are drawn a second time, in a buffer with the same area, keep their states
abbrev pub StatesAreStable : Type 0
StatesAreStable = (old new again : List PlacedData) (a b c d : Screen) →
    c.area ≡ a.area → Draws old new a b → Draws new again c d → again ≡ new

-- a widget outside the buffer changes no cell and keeps its state
abbrev pub OutsideIsUnchanged : Type 0
OutsideIsUnchanged = (p : PlacedData) (a b : Screen) → is_empty (intersection_of p.area a.area) ≡ true →
    (placed_after a.area p ≡ p) × (Painted (placed_layers a.area p) a b → (x y : ℕ) → cell_at b x y ≡ cell_at a x y)

-- a widget that is drawn a second time, in a buffer with the same area, has the same layers
abbrev pub LayersRepeat : Type 0
LayersRepeat = (area : Rect) (p : PlacedData) → placed_layers area (placed_after area p) ≡ placed_layers area p

-- a drawing on a blank buffer of a size gives one screen and one list of states
abbrev pub DrawingIsUnique : Type 0
DrawingIsUnique = (width height : ℕ) (old new other : List PlacedData) (last different : Screen) →
    IsDrawn width height old new last → IsDrawn width height old other different → (different ≡ last) × (other ≡ new)
