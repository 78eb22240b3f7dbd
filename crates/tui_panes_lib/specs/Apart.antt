-- Rectangles that share no position.
use Rattle.std.specs.Prelude.{ℕ, ◌≡◌, ◌&&◌, true, false, List, All, AllPairs}
use Rattle.tui_cells.specs.declared.rect.Rect.{Rect}
use Rattle.tui_cells.specs.Rect.{covers}

-- each rectangle is inside the area, and no two share a position
pub record AreDisjointWithin (area : Rect) (rects : List Rect) : Type 0 where
  pub inside : All (λ r. (x y : ℕ) → covers r x y ≡ true → covers area x y ≡ true) rects
  pub apart : AllPairs (λ a b. (x y : ℕ) → (covers a x y && covers b x y) ≡ false) rects
