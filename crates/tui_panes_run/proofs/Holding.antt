-- The leaf that contains a position.
use Rattle.std.proofs.Common.{◌≡◌, ℕ, ◌<◌, Bool, true, false, List, length, Option, Some, None, refl}
use Rattle.std.specs.Prelude.{◌↔◌}
use Rattle.tui_cells.specs.Rect.{covers}
use Rattle.tui_scene.specs.Item.{PlacedData}
use Rattle.tui_scene.specs.Scene.{placed_at}
use Rattle.tui_panes_run.specs.Found.{IsLeafAt}

not_some : (found : Option ℕ) (i : ℕ) → found ≡ None → found ≡ Some i → ⊥
not_some (Some k) i none some = absurd cc
not_some None i none some = absurd cc

pub holds : (leaves : List PlacedData) (x y : ℕ) (found : Option ℕ) →
    ((i : ℕ) → (found ≡ Some i) ↔ ((i < length leaves) × (covers (placed_at leaves i).area x y ≡ true))) → IsLeafAt leaves x y found
holds leaves x y (Some i) is = (is i).0 refl
holds leaves x y None is = λ i lt. by_test i lt (covers (placed_at leaves i).area x y) refl
  where
    by_test : (i : ℕ) → i < length leaves → (b : Bool) → covers (placed_at leaves i).area x y ≡ b → covers (placed_at leaves i).area x y ≡ false
    by_test i lt true e = absurd (not_some None i refl ((is i).1 (lt, e)))
    by_test i lt false e = e
