-- The print of a screen, in bytes.
use Rattle.std.specs.Prelude.{◌≡◌, ℕ, ◌+◌, List, [], ◌∷◌, ◌++◌, codes, decimal, flat_map, Option, None}
use Rattle.tui_cells.specs.Buffer.{Screen}
use Rattle.tui_cells.specs.Cell.{Look}
use Rattle.tui_cells.specs.ColorText.{color_text}
use Rattle.tui_io.specs.Texts.{newline, number_or_dash}
use Rattle.tui_print.specs.Runs.{StyleRun, AreStyleRuns}
use Rattle.tui_rows.specs.RowLine.{row_line}
use Rattle.tui_scene.specs.Item.{ItemData, PlacedData, list, scrollbar, stateless, table}

-- the line of a run in a row: `s`, the row, the first column, the number of cells, both colours, and the bits of the
-- modifiers
unfoldable pub run_line : ℕ → StyleRun → List ℕ
run_line row run = codes "s " ++ (decimal row
    ++ (codes " " ++ (decimal run.start
    ++ (codes " " ++ (decimal run.len
    ++ (codes " " ++ (color_text run.attributes.fg
    ++ (codes " " ++ (color_text run.attributes.bg
    ++ (codes " " ++ (decimal run.attributes.modifier.bits ++ newline)))))))))))

-- the lines of the runs of rows, where the first row has this number
abbrev pub AreRunLines : ℕ → List (List Look) → List ℕ → Type 0
AreRunLines number [] text = text ≡ []
AreRunLines number (row ∷ rows) text =
    (runs : List StyleRun) × (rest : List ℕ) × AreStyleRuns row runs × AreRunLines (number + 1) rows rest
    × (text ≡ flat_map (run_line number) runs ++ rest)

-- the line of a state: `t`, the widget's number in the scene and its name, the offset, and the selected row and column
unfoldable pub state_text : ℕ → List ℕ → ℕ → Option ℕ → Option ℕ → List ℕ
state_text number name start row column = codes "t " ++ (decimal number
    ++ (codes " " ++ (name
    ++ (codes " " ++ (decimal start
    ++ (codes " " ++ (number_or_dash row
    ++ (codes " " ++ (number_or_dash column ++ newline)))))))))

-- the line of a widget, empty if it has no state
abbrev pub state_line : ℕ → ItemData → List ℕ
state_line number (stateless w) = []
state_line number (list l s) = state_text number (codes "list") s.offset s.selected None
state_line number (table t s) = state_text number (codes "table") s.offset s.selected s.selected_column
state_line number (scrollbar b s) = state_text number (codes "scrollbar") s.position None None

-- the lines of widgets, where the first one has this number
unfoldable pub state_lines : ℕ → List PlacedData → List ℕ
state_lines number [] = []
state_lines number (p ∷ ps) = state_line number p.item ++ state_lines (number + 1) ps

-- The print of a buffer and of the widgets that were drawn: the rows, the runs of the rows, and the states.
pub record IsPrint (screen : Screen) (placed : List PlacedData) (text : List ℕ) : Type 0 where
  pub runs : List ℕ
  pub are_runs : AreRunLines 0 screen.rows runs
  pub parts : text ≡ flat_map row_line screen.rows ++ (runs ++ state_lines 0 placed)
