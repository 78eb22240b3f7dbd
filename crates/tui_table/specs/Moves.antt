-- The state that a drawing of a table leaves.
use Rattle.std.specs.Prelude.{◌≡◌, ℕ, ◌-◌, ◌==◌, min, true, false, length, Option, None, Some, if◌then◌else◌}
use Rattle.tui_cells.specs.declared.rect.Rect.{Rect}
use Rattle.tui_cells.specs.Rect.{is_empty}
use Rattle.tui_layout.specs.Found.{window_of}
use Rattle.tui_layout.specs.Window.{IsFirst}
use Rattle.tui_layout.specs.declared.window.Window.{Window}
use Rattle.tui_table.specs.Areas.{column_count, room_of}
use Rattle.tui_table.specs.Row.{heights_of}
use Rattle.tui_table.specs.Table.{TableData}
use Rattle.tui_table.specs.declared.state.TableState.{TableState}

-- the window of rows that are shown in full in an area of this height
abbrev pub table_window : TableData → ℕ → TableState → Window
table_window t height s = window_of (heights_of t.rows) (room_of t height) s.offset s.selected 0

-- A selection among `count` entries: past the last it becomes the last, and without entries it is none. A list's
-- `cut_selection` is not used without entries.
abbrev pub clamp_to : ℕ → Option ℕ → Option ℕ
clamp_to count None = None
clamp_to count (Some place) = if count == 0 then None else Some (min place (count - 1))

-- the selected row after a drawing
abbrev pub row_after : TableData → TableState → Option ℕ
row_after t s = clamp_to (length t.rows) s.selected

-- the selected column after a drawing
abbrev pub column_after : TableData → TableState → Option ℕ
column_after t s = clamp_to (column_count t) s.selected_column

-- the state after a drawing in an area
unfoldable pub table_after : TableData → Rect → TableState → TableState
table_after t inner s = if is_empty inner then s else record {
  offset = (table_window t inner.height s).first;
  selected = row_after t s;
  selected_column = column_after t s;
}

-- What a user can rely on. If the area is empty, the state is unchanged. Otherwise both selections are limited, and the
-- offset moves as little as possible to show the selected row.
pub record TableMoves (t : TableData) (inner : Rect) (old new : TableState) : Type 0 where
  pub stays : is_empty inner ≡ true → new ≡ old
  pub selected : is_empty inner ≡ false → new.selected ≡ row_after t old
  pub column : is_empty inner ≡ false → new.selected_column ≡ column_after t old
  pub least : is_empty inner ≡ false → IsFirst (heights_of t.rows) (room_of t inner.height) old.offset new.selected 0 new.offset
