-- The areas and the columns of a table.
use Rattle.std.specs.Prelude.{ℕ, ◌+◌, ◌-◌, ◌/◌, ◌==◌, min, max, List, length, replicate, Option, None, Some, if◌then◌else◌}
use Rattle.std.specs.Option.{is_some}
use Rattle.tui_cells.specs.declared.rect.Rect.{Rect}
use Rattle.tui_cells.specs.Rect.{rows_from}
use Rattle.tui_layout.specs.Columns.{columns_of}
use Rattle.tui_layout.specs.HighlightSpacing.{should_add}
use Rattle.tui_layout.specs.declared.constraint.Constraint.{Constraint}
use Rattle.tui_layout.specs.declared.constraint.Constraint.TheVariants.{Length}
use Rattle.tui_layout.specs.declared.segment.Segment.{Segment}
use Rattle.tui_table.specs.Row.{RowData, most_cells, row_height}
use Rattle.tui_table.specs.Table.{TableData}
use Rattle.tui_text.specs.Width.{text_width}

-- the area of a row after `from` rows of another area: below its top margin, as high as the row, cut off at the end
abbrev pub area_in : Rect → ℕ → RowData → Rect
area_in rect from r = rows_from rect (from + r.top_margin) r.height

-- how many rows of the screen a header or a footer takes
abbrev pub height_if : Option RowData → ℕ
height_if None = 0
height_if (Some r) = row_height r

-- how many rows of the screen the header and the footer leave
abbrev pub room_of : TableData → ℕ → ℕ
room_of t height = height - height_if t.header - height_if t.footer

-- the area of the rows, between the header and the footer
abbrev pub body_of : TableData → Rect → Rect
body_of t inner = rows_from inner (height_if t.header) (room_of t inner.height)

-- how many columns of the screen are reserved for the highlight symbol
unfoldable pub gutter_of : TableData → ℕ → Option ℕ → ℕ
gutter_of t width selected = if should_add t.symbol_spacing (is_some selected) then min (text_width t.symbol) width else 0

-- how many cells a row has, if there is one
abbrev pub cells_if : Option RowData → ℕ
cells_if None = 0
cells_if (Some r) = length r.cells

-- the greatest number of cells in a row, the header or the footer
unfoldable pub column_count : TableData → ℕ
column_count t = max (most_cells t.rows) (max (cells_if t.header) (cells_if t.footer))

-- the widths that were given or, if none were, equal widths for all columns
abbrev pub widths_of : TableData → ℕ → List Constraint
widths_of t width = if length t.widths == 0 then replicate (column_count t) (Length (width / max (column_count t) 1)) else t.widths

-- the columns, counted from the end of the highlight symbol's columns
unfoldable pub columns_in : TableData → ℕ → Option ℕ → List Segment
columns_in t width selected = columns_of (width - gutter_of t width selected) t.spacing (widths_of t width) t.flex
