-- Cells of a table: an object with `text`, or else text. Rows of a table: an array of cells, or an object with `cells`.
use Rattle.std.specs.Prelude.{Option, None, Some, unwrap_or, codes}
use Rattle.serde_json.specs.Data.{Data, array}
use Rattle.serde_json.specs.Find.{get}
use Rattle.tui_table.specs.Cell.{CellData, cell_of}
use Rattle.tui_table.specs.Row.{RowData, row_of as new_row}
use Rattle.tui_json.specs.Members.{◌>>=◌, list_of, member, optional_member}
use Rattle.tui_json.specs.Number.{u16_of}
use Rattle.tui_schema.specs.Kinds.Style.{style_member}
use Rattle.tui_schema.specs.Kinds.Text.{text_of}

abbrev cell_by : Option Data → Data → Option CellData
cell_by None d = do
  content ← text_of d
  Some (cell_of content)
cell_by (Some text) d = do
  content ← text_of text
  style ← style_member (codes "style") d
  span ← optional_member u16_of (codes "column_span") d
  Some (record { content = content; style = style; span = unwrap_or span 1 })

unfoldable pub table_cell_of : Data → Option CellData
table_cell_of d = cell_by (get (codes "text") d) d

unfoldable pub row_of : Data → Option RowData
row_of (array ds) = do
  cells ← list_of table_cell_of (array ds)
  Some (new_row cells)
row_of d = do
  cells ← member (list_of table_cell_of) (codes "cells") d
  height ← optional_member u16_of (codes "height") d
  top ← optional_member u16_of (codes "top_margin") d
  bottom ← optional_member u16_of (codes "bottom_margin") d
  style ← style_member (codes "style") d
  Some (record {
    cells = cells;
    height = unwrap_or height 1;
    top_margin = unwrap_or top 0;
    bottom_margin = unwrap_or bottom 0;
    style = style;
  })
