-- The steps of a pager.
use Rattle.std.specs.Prelude.{ℕ, ◌+◌, ◌-◌, ◌==◌, min, List, length, slice_index, Option, None, Some, if◌then◌else◌}
use Rattle.tui_cells.specs.Rect.{farthest_edge}
use Rattle.tui_layout.specs.Found.{window_of}
use Rattle.tui_pager_lib.specs.declared.key.Key.{Key}
use Rattle.tui_pager_lib.specs.declared.key.Key.TheVariants.{Up, Down, PageUp, PageDown, First, Last, LineUp, LineDown, BodyTop, BodyEnd}
use Rattle.tui_pager_lib.specs.declared.state.PagerState.{PagerState}

-- What a step depends on: the rows of both panes, and for each entry the number of lines of its title and of its
-- wrapped body.
pub record PagerMetrics : Type 0 where
  pub rows : ℕ
  pub heights : List ℕ
  pub lines : List ℕ

-- the greatest line that a body may start with, by its rows and the number of its lines
abbrev pub max_line_in : ℕ → ℕ → ℕ
max_line_in rows lines = min (lines - rows) farthest_edge

-- the number of lines of the selected body, 0 if no entry is selected
abbrev pub lines_at : List ℕ → Option ℕ → ℕ
lines_at lines None = 0
lines_at lines (Some place) = slice_index lines place

-- the greatest line that the selected body may start with
abbrev pub max_line_of : PagerMetrics → Option ℕ → ℕ
max_line_of z selected = max_line_in z.rows (lines_at z.lines selected)

-- the entry that a key selects
abbrev pub selected_by : ℕ → ℕ → Key → ℕ → ℕ
selected_by rows count Up place = place - 1
selected_by rows count Down place = min (place + 1) (count - 1)
selected_by rows count PageUp place = place - rows
selected_by rows count PageDown place = min (place + rows) (count - 1)
selected_by rows count First place = 0
selected_by rows count Last place = count - 1
selected_by rows count _ place = place

-- the line after a key that moves the body
abbrev pub line_by : ℕ → Key → ℕ → ℕ
line_by most LineUp line = line - 1
line_by most LineDown line = min (line + 1) most
line_by most BodyTop line = 0
line_by most BodyEnd line = most
line_by most _ line = line

-- the state after a key, before the list scrolls; the body of a new selection is shown from its first line on
abbrev pub moved_from : ℕ → ℕ → ℕ → Key → PagerState → Option ℕ → PagerState
moved_from rows count most key s None = s
moved_from rows count most key s (Some place) = record {
  selected = Some (selected_by rows count key place);
  offset = s.offset;
  line = if selected_by rows count key place == place then line_by most key s.line else 0;
}

-- the same for the current selection; nothing changes if no entry is selected
abbrev pub moved_by : ℕ → ℕ → ℕ → Key → PagerState → PagerState
moved_by rows count most key s = moved_from rows count most key s s.selected

-- the state with the offset of a list with these heights that keeps one entry visible on each side of the selection
abbrev pub scrolled : List ℕ → ℕ → PagerState → PagerState
scrolled heights rows s = record { selected = s.selected; offset = (window_of heights rows s.offset s.selected 1).first; line = s.line }

-- the first entry, if there is one
abbrev pub first_entry : List ℕ → Option ℕ
first_entry heights = if length heights == 0 then None else Some 0

-- the state at the start: the first entry is selected and shown from its first line on
abbrev pub initial_state : PagerMetrics → PagerState
initial_state z = scrolled z.heights z.rows (record { selected = first_entry z.heights; offset = 0; line = 0 })

-- the state after a key
abbrev pub pressed : PagerMetrics → Key → PagerState → PagerState
pressed z key s = scrolled z.heights z.rows (moved_by z.rows (length z.heights) (max_line_of z s.selected) key s)

-- the state at another size
abbrev pub resized : PagerMetrics → PagerState → PagerState
resized z s = scrolled z.heights z.rows (record { selected = s.selected; offset = s.offset; line = min s.line (max_line_of z s.selected) })
