-- Laws of tables.
use Rattle.std.specs.Prelude.{◌≡◌, ℕ, ◌-◌, ◌<◌, ◌≤◌, length, slice_get, Option, Some}
use Rattle.tui_cells.specs.declared.rect.Rect.{Rect}
use Rattle.tui_layout.specs.Columns.{AreInOrder}
use Rattle.tui_layout.specs.Sums.{total}
use Rattle.tui_frames.specs.InBlock.{inner_of}
use Rattle.tui_table.specs.Areas.{body_of, columns_in, gutter_of, room_of}
use Rattle.tui_table.specs.Moves.{row_after, table_after, table_window}
use Rattle.tui_table.specs.Row.{RowData, heights_of, row_height}
use Rattle.tui_table.specs.Strokes.{row_area, table_layers}
use Rattle.tui_table.specs.Table.{TableData}
use Rattle.tui_table.specs.declared.state.TableState.{TableState}

-- A selected row that fits with both margins is one of those that are shown in full: its area is as high as the row.
-- All rows that are shown in full fit together.
abbrev pub SelectedIsShown : Type 0
SelectedIsShown = (t : TableData) (inner : Rect) (s : TableState) (place : ℕ) (r : RowData) →
    row_after t s ≡ Some place → slice_get t.rows place ≡ Some r → row_height r ≤ room_of t inner.height → let w = table_window t inner.height s in
    (w.first ≤ place) × (place < w.end) × (w.end ≤ length t.rows) × (total (heights_of t.rows) w.first w.end ≤ room_of t inner.height)
    × ((row_area t (body_of t inner) w.first place r).height ≡ r.height)

-- drawn again in the same clip, a table keeps the state that it left, and draws the same strokes
abbrev pub RedrawIsIdempotent : Type 0
RedrawIsIdempotent = (t : TableData) (clip : Rect) (s : TableState) → let after = table_after t (inner_of t.block clip) s in
    (table_after t (inner_of t.block clip) after ≡ after) × (table_layers t after clip ≡ table_layers t s clip)

-- the columns are after the highlight symbol's, inside the width, in order and apart
abbrev pub ColumnsAreInOrder : Type 0
ColumnsAreInOrder = (t : TableData) (width : ℕ) (selected : Option ℕ) →
    AreInOrder (width - gutter_of t width selected) t.spacing (columns_in t width selected)
