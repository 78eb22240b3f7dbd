-- Widgets whose areas share no position: drawing them in any order, and replacing one of them.
use Rattle.std.specs.Prelude.{ℕ, ◌≡◌, ◌<◌, ◌==◌, ◌&&◌, false, List, [], ◌∷◌, length, map, count_by, All, AllPairs, slice_set}
use Rattle.tui_cells.specs.Rect.{covers}
use Rattle.tui_cells.specs.Cell.{blank, wipe}
use Rattle.tui_cells.specs.Buffer.{IsFilled, Screen}
use Rattle.tui_cells.specs.Layers.{Painted, stroke}
use Rattle.tui_scene.specs.Item.{PlacedData, placed_after, placed_layers}
use Rattle.tui_scene.specs.Laws.{Draws}
use Rattle.tui_scene.specs.Scene.{placed_at, scene_layers}
use Rattle.tui_scene.specs.Shadow.{HasNoShadow}

-- widgets without shadows whose areas share no position
pub record AreDisjointItems (ps : List PlacedData) : Type 0 where
  pub no_shadow : All (λ p. HasNoShadow p.item) ps
  pub apart : AllPairs (λ p q. (x y : ℕ) → (covers p.area x y && covers q.area x y) ≡ false) ps

-- each number below n exactly once, and no other
pub record IsOrder (n : ℕ) (order : List ℕ) : Type 0 where
  pub below : All (λ i. i < n) order
  pub once : (i : ℕ) → i < n → count_by (λ j. j == i) order ≡ 1

-- A buffer is fresh if the widgets, with their current states, would draw it on a blank buffer with the same area.
pub record IsFresh (ps : List PlacedData) (s : Screen) : Type 0 where
  pub first : Screen
  pub blank_first : IsFilled s.area blank first
  pub strokes : Painted (scene_layers s.area ps) first s

-- A widget without a shadow has replaced another one: the area was reset, and the new widget was drawn there.
pub record IsReplaced (ps : List PlacedData) (at : ℕ) (p : PlacedData) (before after : Screen) : Type 0 where
  pub within : at < length ps
  pub same_area : p.area ≡ (placed_at ps at).area
  pub no_shadow : HasNoShadow p.item
  pub reset : Screen
  pub is_reset : Painted (stroke (covers p.area) wipe) before reset
  pub strokes : Painted (placed_layers before.area p) reset after

-- the widgets after that, the new one with the state that its drawing leaves
abbrev pub replaced : List PlacedData → ℕ → PlacedData → Screen → List PlacedData
replaced ps at p before = slice_set ps at (placed_after before.area p)

-- replacements one after another, each with the index and the new widget
abbrev pub AreReplaced : List PlacedData → Screen → List (ℕ × PlacedData) → List PlacedData → Screen → Type 0
AreReplaced ps before [] last after = (last ≡ ps) × (after ≡ before)
AreReplaced ps before (r ∷ rs) last after =
    (next : Screen) × IsReplaced ps r.0 r.1 before next × AreReplaced (replaced ps r.0 r.1 before) next rs last after

-- drawing them in any order gives the same buffer as drawing them in their own order
abbrev pub OrderIsIrrelevant : Type 0
OrderIsIrrelevant = (ps : List PlacedData) (order : List ℕ) (a b : Screen) → AreDisjointItems ps → IsOrder (length ps) order →
    Painted (scene_layers a.area (map (placed_at ps) order)) a b → Painted (scene_layers a.area ps) a b

-- a buffer is fresh after they are drawn on a blank one
abbrev pub DrawnIsFresh : Type 0
DrawnIsFresh = (old new : List PlacedData) (a b : Screen) → IsFilled a.area blank a → Draws old new a b → IsFresh new b

-- a fresh buffer stays fresh if one of them is replaced
abbrev pub ReplacedIsFresh : Type 0
ReplacedIsFresh = (ps : List PlacedData) (at : ℕ) (p : PlacedData) (a b : Screen) →
    AreDisjointItems ps → IsFresh ps a → IsReplaced ps at p a b → IsFresh (replaced ps at p a) b

-- a buffer is fresh after a drawing on a blank one and any replacements
abbrev pub StaysFresh : Type 0
StaysFresh = (old new last : List PlacedData) (rs : List (ℕ × PlacedData)) (a b c : Screen) →
    AreDisjointItems old → IsFilled a.area blank a → Draws old new a b → AreReplaced new b rs last c → IsFresh last c
