-- The output for a scene.
use Rattle.std.specs.Prelude.{ℕ, List}
use Rattle.tui_cells.specs.Buffer.{Screen}
use Rattle.tui_scene.specs.Drawn.{IsDrawn}
use Rattle.tui_scene.specs.Item.{PlacedData}
use Rattle.tui_schema.specs.Scene.{SceneData}
use Rattle.tui_terminal_model.specs.Styled.{AreStyledRows}
use Rattle.tui_terminal_model.specs.declared.depth.Depth.{Depth}

-- the rows of the screen that results from drawing the scene on a blank one, in this colour depth
abbrev pub AreRowsShown : Depth → SceneData → List ℕ → Type 0
AreRowsShown depth s text = (new : List PlacedData) × (last : Screen) × IsDrawn s.width s.height s.items new last × AreStyledRows depth last text
