-- The fields of `table`.
use Rattle.std.specs.Prelude.{ℕ, List, [], Option, Some, None, Result, Ok, Err, option_map, unwrap_or}
use Rattle.std.specs.Option.{option_or}
use Rattle.serde_json.specs.Data.{Data}
use Rattle.tui_cells.specs.declared.style.Style.{Style}
use Rattle.tui_layout.specs.declared.constraint.Constraint.{Constraint}
use Rattle.tui_layout.specs.declared.flex.Flex.{Flex}
use Rattle.tui_layout.specs.declared.flex.Flex.TheVariants.{Start}
use Rattle.tui_layout.specs.declared.highlight_spacing.HighlightSpacing.{HighlightSpacing}
use Rattle.tui_layout.specs.declared.highlight_spacing.HighlightSpacing.TheVariants.{WhenSelected}
use Rattle.tui_table.specs.Row.{RowData}
use Rattle.tui_table.specs.Table.{TableData, table_of as new_table}
use Rattle.tui_table.specs.Widths.{first_above_100}
use Rattle.tui_table.specs.declared.state.TableState.{TableState}
use Rattle.tui_text.specs.Text.{TextData, empty_text, raw_text}
use Rattle.tui_schema.specs.declared.field.Field.TheVariants as fields
use Rattle.tui_schema.specs.Items.Frame.{frame_in, style_in}
use Rattle.tui_json.specs.Constraint.{constraint_of}
use Rattle.tui_json.specs.Members.{list_of}
use Rattle.tui_json.specs.Named.{named_of}
use Rattle.tui_json.specs.Names.{flexes, highlight_spacings}
use Rattle.tui_json.specs.Number.{u16_of, u64_of}
use Rattle.tui_schema.specs.Kinds.Symbol.{symbol_of}
use Rattle.tui_schema.specs.Kinds.Table.{row_of}
use Rattle.tui_json.specs.Refusals.{◌>>=◌}
use Rattle.tui_schema.specs.Refusals.{required, optional}
use Rattle.tui_schema.specs.declared.bad_field.BadField.{BadField}

-- a table, unless the width with some index is a percentage above 100
abbrev pub unless_above : Option ℕ → Option ℕ → TableData → Result TableData BadField
unless_above i (Some place) t = Err (record { item = i; field = fields.Widths })
unless_above i None t = Ok t

-- rows in columns of these widths
abbrev pub in_widths : Option ℕ → List RowData → List Constraint → Result TableData BadField
in_widths i rows widths = unless_above i (first_above_100 widths) (new_table rows widths)

unfoldable pub widths_of : Option ℕ → Data → Result (List Constraint) BadField
widths_of i d = do
  widths ← optional (list_of constraint_of) i fields.Widths d
  Ok (unwrap_or widths [])

-- the rows, the header, the footer and the column widths of a table
unfoldable pub table_with_rows : Option ℕ → Data → Result TableData BadField
table_with_rows i d = do
  rows ← required (list_of row_of) i fields.Rows d
  header ← optional row_of i fields.Header d
  footer ← optional row_of i fields.Footer d
  widths ← widths_of i d
  table ← in_widths i rows widths
  Ok (record table { header = option_or header table.header; footer = option_or footer table.footer })

-- the column spacing, and the styles of the selected row, column and cell
unfoldable pub table_marks_of : Option ℕ → Data → Result (ℕ × Style × Style × Style) BadField
table_marks_of i d = do
  spacing ← optional u16_of i fields.ColumnSpacing d
  row ← style_in i fields.RowHighlightStyle d
  column ← style_in i fields.ColumnHighlightStyle d
  cell ← style_in i fields.CellHighlightStyle d
  Ok (unwrap_or spacing 1, row, column, cell)

-- the symbol beside the selected row, and the placement of the columns
unfoldable pub table_layout_of : Option ℕ → Data → Result (TextData × HighlightSpacing × Flex) BadField
table_layout_of i d = do
  symbol ← optional symbol_of i fields.HighlightSymbol d
  spacing ← optional (named_of highlight_spacings) i fields.HighlightSpacing d
  flex ← optional (named_of flexes) i fields.Flex d
  Ok (unwrap_or (option_map raw_text symbol) empty_text, unwrap_or spacing WhenSelected, unwrap_or flex Start)

unfoldable pub table_state_of : Option ℕ → Data → Result TableState BadField
table_state_of i d = do
  offset ← optional u64_of i fields.Offset d
  selected ← optional u64_of i fields.Selected d
  column ← optional u64_of i fields.SelectedColumn d
  Ok (record { offset = unwrap_or offset 0; selected = selected; selected_column = column })

-- a table and its initial state
unfoldable pub shown_table : Option ℕ → Data → Result (TableData × TableState) BadField
shown_table i d = do
  frame ← frame_in i d
  table ← table_with_rows i d
  marks ← table_marks_of i d
  layout ← table_layout_of i d
  state ← table_state_of i d
  Ok (
    record table {
      block = option_or frame.0 table.block;
      style = frame.1;
      spacing = marks.0;
      row_style = marks.1;
      column_style = marks.2;
      cell_style = marks.3;
      symbol = layout.0;
      symbol_spacing = layout.1;
      flex = layout.2;
    },
    state,
  )
