-- Laws of the print.
use Rattle.std.specs.Prelude.{◌≡◌, ◌≢◌, ℕ, ◌+◌, ◌<◌, ◌≤◌, List, Some}
use Rattle.tui_cells.specs.declared.attributes.Attributes.{Attributes}
use Rattle.tui_cells.specs.Buffer.{Screen}
use Rattle.tui_cells.specs.Cell.{Look}
use Rattle.tui_scene.specs.Item.{PlacedData}
use Rattle.tui_print.specs.Runs.{StyleRun, IsStyleRun, AreStyleRuns, unstyled_attributes, attributes_at}
use Rattle.tui_print.specs.Print.{IsPrint}

-- exactly one list has all the runs of a row
abbrev pub RunsAreUnique : Type 0
RunsAreUnique = (row : List Look) →
    (runs : List StyleRun) × AreStyleRuns row runs
    × ((others : List StyleRun) → AreStyleRuns row others → others ≡ runs)

-- a column is in a run
abbrev pub IsInRun : StyleRun → ℕ → Type 0
IsInRun run column = (run.start ≤ column) × (column < run.start + run.len)

-- each styled cell is in exactly one run, which has its attributes
abbrev pub CellsHaveRuns : Type 0
CellsHaveRuns = (row : List Look) (column : ℕ) (a : Attributes) → attributes_at row column ≡ Some a → a ≢ unstyled_attributes →
    (run : StyleRun) × IsStyleRun row run × IsInRun run column × (run.attributes ≡ a)
    × ((other : StyleRun) → IsStyleRun row other → IsInRun other column → other ≡ run)

-- a buffer and its widgets have exactly one print
abbrev pub PrintIsUnique : Type 0
PrintIsUnique = (screen : Screen) (placed : List PlacedData) →
    (text : List ℕ) × IsPrint screen placed text × ((other : List ℕ) → IsPrint screen placed other → other ≡ text)
