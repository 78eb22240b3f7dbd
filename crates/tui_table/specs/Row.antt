-- Rows of a table as plain data.
use Rattle.std.specs.Prelude.{ℕ, ◌+◌, max, List, fold, length, map}
use Rattle.tui_cells.specs.Style.{no_style}
use Rattle.tui_cells.specs.declared.style.Style.{Style}
use Rattle.tui_table.specs.Cell.{CellData, cell_data}
use Rattle.tui_table.specs.declared.row.Row.{Row}

-- a row as plain data
pub record RowData : Type 0 where
  pub cells : List CellData
  pub height : ℕ
  pub top_margin : ℕ
  pub bottom_margin : ℕ
  pub style : Style

-- a row of the code as plain data
abbrev pub row_data : Row → RowData
row_data r = record {
  cells = map cell_data r.cells.items;
  height = r.height;
  top_margin = r.top_margin;
  bottom_margin = r.bottom_margin;
  style = r.style;
}

-- cells in one row of the screen, without margins or a style of their own
abbrev pub row_of : List CellData → RowData
row_of cells = record { cells = cells; height = 1; top_margin = 0; bottom_margin = 0; style = no_style }

-- how many rows of the screen a row takes, both margins included
abbrev pub row_height : RowData → ℕ
row_height r = r.top_margin + r.height + r.bottom_margin

-- the heights of all rows
abbrev pub heights_of : List RowData → List ℕ
heights_of rows = map row_height rows

-- the greatest number of cells in a row, 0 without rows
abbrev pub most_cells : List RowData → ℕ
most_cells rows = fold max 0 (map (λ r. length r.cells) rows)
