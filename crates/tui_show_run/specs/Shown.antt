-- The output for a scene.
use Rattle.std.specs.Prelude.{ℕ, List}
use Rattle.tui_cells.specs.Buffer.{Screen}
use Rattle.tui_print.specs.Print.{IsPrint}
use Rattle.tui_scene.specs.Drawn.{IsDrawn}
use Rattle.tui_scene.specs.Item.{PlacedData}
use Rattle.tui_schema.specs.Scene.{SceneData}

-- the print of the buffer that results from drawing the scene on a blank one
abbrev pub IsShown : SceneData → List ℕ → Type 0
IsShown s text = (new : List PlacedData) × (last : Screen) × IsDrawn s.width s.height s.items new last × IsPrint last new text
