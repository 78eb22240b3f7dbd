-- The output for an input.
use Rattle.std.specs.Prelude.{◌≡◌, ℕ, ◌+◌, List, [], ◌∷◌, ◌++◌, codes, decimal}
use Rattle.tui_cells.specs.Buffer.{Screen}
use Rattle.tui_io.specs.Texts.{newline, number_or_dash}
use Rattle.tui_print.specs.Print.{IsPrint}
use Rattle.tui_pager_lib.specs.Screen.{IsDrawnOnBlank, page_area, pager_layers}
use Rattle.tui_pager_lib.specs.declared.state.PagerState.{PagerState}
use Rattle.tui_pager_run.specs.Input.{InputData}
use Rattle.tui_pager_run.specs.States.{first_of, last_of, states_of}

-- the line of a state: `k`, how many keys came before, the number of the selected entry, the offset and the line
unfoldable pub key_line : ℕ → PagerState → List ℕ
key_line number s = codes "k " ++ (decimal number
    ++ (codes " " ++ (number_or_dash s.selected
    ++ (codes " " ++ (decimal s.offset
    ++ (codes " " ++ (decimal s.line ++ newline)))))))

-- the lines of states, where this many keys came before the first one
unfoldable pub key_lines : ℕ → List PagerState → List ℕ
key_lines number [] = []
key_lines number (s ∷ ss) = key_line number s ++ key_lines (number + 1) ss

-- the output: the lines of all states, then the rows and the runs of the last screen
pub record IsWritten (input : InputData) (text : List ℕ) : Type 0 where
  pub screen : Screen
  pub drawn : IsDrawnOnBlank (pager_layers (last_of input)) (page_area (last_of input).width (last_of input).height) screen
  pub print : List ℕ
  pub is_print : IsPrint screen [] print
  pub parts : text ≡ key_lines 0 (states_of (first_of input) input.calls) ++ print
