-- Which leaf is at a position.
use Rattle.std.specs.Prelude.{◌≡◌, ◌<◌, ℕ, List, ◌++◌, length, Option, Some, None, codes, decimal, true, false}
use Rattle.tui_cells.specs.Rect.{covers}
use Rattle.tui_scene.specs.Item.{PlacedData}
use Rattle.tui_scene.specs.Scene.{placed_at}
use Rattle.tui_panes_run.specs.Input.{InputData}
use Rattle.tui_panes_run.specs.Shown.{leaves_of}

-- the leaf whose rectangle contains the position, or none
abbrev pub IsLeafAt : List PlacedData → ℕ → ℕ → Option ℕ → Type 0
IsLeafAt leaves x y (Some i) = (i < length leaves) × (covers (placed_at leaves i).area x y ≡ true)
IsLeafAt leaves x y None = (i : ℕ) → i < length leaves → covers (placed_at leaves i).area x y ≡ false

-- the line that says so
unfoldable pub leaf_line : Option ℕ → List ℕ
leaf_line (Some i) = codes "leaf " ++ (decimal i ++ codes "\n")
leaf_line None = codes "none\n"

abbrev pub IsFound : ℕ → ℕ → InputData → List ℕ → Type 0
IsFound x y input text = (leaf : Option ℕ) × IsLeafAt (leaves_of input) x y leaf × (text ≡ leaf_line leaf)
