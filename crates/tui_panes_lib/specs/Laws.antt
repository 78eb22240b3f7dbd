-- Laws of panes.
use Rattle.std.specs.Prelude.{◌≡◌, ℕ, All, List, [], ◌∷◌, map}
use Rattle.tui_cells.specs.declared.rect.Rect.{Rect}
use Rattle.tui_cells.specs.Buffer.{IsFilled, Screen}
use Rattle.tui_cells.specs.Cell.{blank}
use Rattle.tui_cells.specs.Layers.{KeptOutside}
use Rattle.tui_scene.specs.Item.{ItemData, PlacedData}
use Rattle.tui_scene.specs.Laws.{Draws}
use Rattle.tui_scene.specs.Redraw.{AreReplaced, IsFresh, IsReplaced, replaced}
use Rattle.tui_scene.specs.Shadow.{HasNoShadow}
use Rattle.tui_panes_lib.specs.Apart.{AreDisjointWithin}
use Rattle.tui_panes_lib.specs.Draw.{HaveNoShadow}
use Rattle.tui_panes_lib.specs.Panes.{rects_of}
use Rattle.tui_panes_lib.specs.Place.{PaneData, leaves_in}
use Rattle.tui_panes_lib.specs.Replace.{item_in_leaf, touched}

-- the rectangles of the leaves are inside the area, and no two share a position, for each tree and each area
abbrev pub PanesAreDisjoint : Type 0
PanesAreDisjoint = (area : Rect) (pane : PaneData) → AreDisjointWithin area (map (λ (p : PlacedData). p.area) (leaves_in area pane))

-- Leaves without shadows whose rectangles share no position are drawn on a blank buffer. The buffer stays fresh if any
-- of them are replaced, any number of times.
abbrev pub PanesStayFresh : Type 0
PanesStayFresh = (area : Rect) (old new last : List PlacedData) (changes : List (ℕ × PlacedData)) (a b c : Screen) →
    AreDisjointWithin area (rects_of old) → HaveNoShadow old → IsFilled a.area blank a → Draws old new a b →
    AreReplaced new b changes last c → IsFresh last c

-- Replacements of one leaf that failed with `NoMemory`, one after another. The leaves are unchanged, and each attempt
-- may have changed what drawing its widget there may change.
abbrev pub AreFailedAttempts : List PlacedData → ℕ → List ItemData → Screen → Screen → Type 0
AreFailedAttempts leaves leaf [] before after = after ≡ before
AreFailedAttempts leaves leaf (item ∷ items) before after = (next : Screen)
    × KeptOutside (touched before.area (item_in_leaf leaves leaf item)) before next × AreFailedAttempts leaves leaf items next after

-- if no widget has a shadow, a buffer that was fresh before these attempts is fresh once the same leaf is replaced, by
-- any widget
abbrev pub RetriedIsFresh : Type 0
RetriedIsFresh = (area : Rect) (leaves : List PlacedData) (leaf : ℕ) (tried : List ItemData) (item : ItemData) (a b c : Screen) →
    AreDisjointWithin area (rects_of leaves) → HaveNoShadow leaves → All (λ i. HasNoShadow i) tried → IsFresh leaves a →
    AreFailedAttempts leaves leaf tried a b → IsReplaced leaves leaf (item_in_leaf leaves leaf item) b c →
    IsFresh (replaced leaves leaf (item_in_leaf leaves leaf item) b) c
