-- What a widget draws, as seen by whoever places it on a screen.
use Rattle.std.specs.Prelude.{◌≡◌, ℕ, Bool, List, true, false}
use Rattle.tui_cells.specs.declared.rect.Rect.{Rect}
use Rattle.tui_cells.specs.Rect.{is_empty}
use Rattle.tui_cells.specs.Buffer.{Screen}
use Rattle.tui_cells.specs.Layers.{Layer, StayIn}

-- a widget, given its clip
pub record Drawing : Type 1 where
  -- the strokes, in order
  pub layers : Rect → List Layer
  -- the positions that may change: the clip, and the widget's shadow if it has one
  pub footprint : Rect → ℕ → ℕ → Bool
  -- what can be seen afterwards: the strokes, or something shorter that the widget states
  pub shows : Rect → Screen → Screen → Type 0
  -- that drawing does not allocate
  pub allocation_free : Type 0
  -- no stroke leaves the footprint
  pub stays : (clip : Rect) → StayIn (footprint clip) (layers clip)
  -- over an empty clip the footprint is empty
  pub nowhere : (clip : Rect) → is_empty clip ≡ true → (x y : ℕ) → footprint clip x y ≡ false

-- the same for a widget with a state of type S: its strokes depend on the state before drawing, and what it shows on
-- the states before and after
pub record StatefulDrawing (S : Type 0) : Type 1 where
  pub layers : S → Rect → List Layer
  pub footprint : Rect → ℕ → ℕ → Bool
  -- the state after drawing, given the state before
  pub after : Rect → S → S
  pub shows : S → S → Rect → Screen → Screen → Type 0
  pub allocation_free : Type 0
  pub stays : (s : S) (clip : Rect) → StayIn (footprint clip) (layers s clip)
  pub nowhere : (clip : Rect) → is_empty clip ≡ true → (x y : ℕ) → footprint clip x y ≡ false
  -- over an empty clip the state does not change
  pub rests : (s : S) (clip : Rect) → is_empty clip ≡ true → after clip s ≡ s
  -- drawing again over the same clip leaves the state that the first drawing left
  pub is_idempotent : (s : S) (clip : Rect) → after clip (after clip s) ≡ after clip s
