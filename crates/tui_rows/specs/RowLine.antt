-- The output line of a row, in bytes.
use Rattle.std.specs.Prelude.{ℕ, List, ◌++◌, codes, drop}
use Rattle.tui_cells.specs.Cell.{Look}
use Rattle.tui_io.specs.Texts.{newline}
use Rattle.tui_text.specs.Visible.{joined_symbols, symbols_in, visible_from}

-- the symbols of the visible cells of a row from a column on
abbrev pub symbols_from : List Look → ℕ → List ℕ
symbols_from row column = joined_symbols (visible_from column 0 (drop column row))

-- the line of a row: the symbols of its visible cells
unfoldable pub row_line : List Look → List ℕ
row_line row = codes "r " ++ (symbols_in row ++ newline)
