-- A cell of a table as plain data.
use Rattle.std.specs.Prelude.{ℕ}
use Rattle.tui_cells.specs.Style.{no_style}
use Rattle.tui_cells.specs.declared.style.Style.{Style}
use Rattle.tui_table.specs.declared.cell.Cell.{Cell}
use Rattle.tui_text.specs.Text.{TextData, text_data}

-- a cell as plain data
pub record CellData : Type 0 where
  pub content : TextData
  pub style : Style
  pub span : ℕ

-- a cell of the code as plain data
abbrev pub cell_data : Cell → CellData
cell_data c = record { content = text_data c.content; style = c.style; span = c.column_span }

-- a text in one column, without another style than its own
abbrev pub cell_of : TextData → CellData
cell_of content = record { content = content; style = no_style; span = 1 }
