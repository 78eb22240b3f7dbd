-- A table as plain data.
use Rattle.std.specs.Prelude.{ℕ, List, map, Option, None, option_map}
use Rattle.tui_cells.specs.Style.{no_style}
use Rattle.tui_cells.specs.declared.style.Style.{Style}
use Rattle.tui_frames.specs.Block.{BlockData, block_data}
use Rattle.tui_layout.specs.declared.constraint.Constraint.{Constraint}
use Rattle.tui_layout.specs.declared.flex.Flex.{Flex}
use Rattle.tui_layout.specs.declared.flex.Flex.TheVariants.{Start}
use Rattle.tui_layout.specs.declared.highlight_spacing.HighlightSpacing.{HighlightSpacing}
use Rattle.tui_layout.specs.declared.highlight_spacing.HighlightSpacing.TheVariants.{WhenSelected}
use Rattle.tui_table.specs.Row.{RowData, row_data}
use Rattle.tui_table.specs.declared.table.Table.{Table}
use Rattle.tui_text.specs.Text.{TextData, empty_text, text_data}

-- a table as plain data
pub record TableData : Type 0 where
  pub rows : List RowData
  pub header : Option RowData
  pub footer : Option RowData
  pub widths : List Constraint
  pub spacing : ℕ
  pub block : Option BlockData
  pub style : Style
  pub row_style : Style
  pub column_style : Style
  pub cell_style : Style
  pub symbol : TextData
  pub symbol_spacing : HighlightSpacing
  pub flex : Flex

-- a table of the code as plain data
abbrev pub table_data : Table → TableData
table_data t = record {
  rows = map row_data t.rows;
  header = option_map row_data t.header;
  footer = option_map row_data t.footer;
  widths = t.widths.items;
  spacing = t.column_spacing;
  block = option_map block_data t.block;
  style = t.style;
  row_style = t.row_highlight_style;
  column_style = t.column_highlight_style;
  cell_style = t.cell_highlight_style;
  symbol = text_data t.highlight_symbol;
  symbol_spacing = t.highlight_spacing;
  flex = t.flex;
}

-- rows in columns of these widths, one column apart, with default settings
abbrev pub table_of : List RowData → List Constraint → TableData
table_of rows widths = record {
  rows = rows;
  header = None;
  footer = None;
  widths = widths;
  spacing = 1;
  block = None;
  style = no_style;
  row_style = no_style;
  column_style = no_style;
  cell_style = no_style;
  symbol = empty_text;
  symbol_spacing = WhenSelected;
  flex = Start;
}
