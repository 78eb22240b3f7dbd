-- Laws of pagers.
use Rattle.std.specs.Prelude.{ℕ, ◌≡◌, ◌<◌, ◌≤◌, List, [], ◌∷◌, length, slice_index, ◌-◌, Option, None, Some}
use Rattle.tui_cells.specs.Buffer.{Screen}
use Rattle.tui_layout.specs.Found.{window_of}
use Rattle.tui_layout.specs.Sums.{total}
use Rattle.tui_layout.specs.declared.window.Window.{Window}
use Rattle.tui_frames.specs.InBlock.{inner_of}
use Rattle.tui_lists.specs.List.{list_window}
use Rattle.tui_pager_lib.specs.Entry.{EntryData}
use Rattle.tui_pager_lib.specs.Pager.{PagerData}
use Rattle.tui_pager_lib.specs.Screen.{IsDrawnOnBlank, list_state, page_area, pager_layers, metrics_of, titles_area, titles_list}
use Rattle.tui_pager_lib.specs.Steps.{PagerMetrics, max_line_of, pressed, resized, initial_state}
use Rattle.tui_pager_lib.specs.declared.key.Key.{Key}
use Rattle.tui_pager_lib.specs.declared.state.PagerState.{PagerState}

-- a call that changes a pager: a key, or another width and height
pub data Call : Type 0 where
  press : Key → Call
  resize : ℕ → ℕ → Call

-- a pager at its start
abbrev pub initial_pager : List EntryData → ℕ → ℕ → PagerData
initial_pager entries width height = record {
  width = width;
  height = height;
  entries = entries;
  state = initial_state (metrics_of entries width height);
}

-- the pager after a key or after a change of the size
abbrev pub after_call : PagerData → Call → PagerData
after_call p (press key) = record p { state = pressed (metrics_of p.entries p.width p.height) key p.state }
after_call p (resize width height) = record p {
  width = width;
  height = height;
  state = resized (metrics_of p.entries width height) p.state;
}

-- the pager after any calls, one after another
abbrev pub after_calls : PagerData → List Call → PagerData
after_calls p [] = p
after_calls p (call ∷ calls) = after_calls (after_call p call) calls

-- the index of an entry, or none if there are no entries
abbrev pub SelectsEntry : ℕ → Option ℕ → Type 0
SelectsEntry count None = count ≡ 0
SelectsEntry count (Some place) = place < count

-- the selection is an entry; the first line is at most the last one that shows the body's end; the offset is the one
-- that the list scrolls to
pub record IsSound (z : PagerMetrics) (s : PagerState) : Type 0 where
  pub place : SelectsEntry (length z.heights) s.selected
  pub line : s.line ≤ max_line_of z s.selected
  pub is_scrolled : s.offset ≡ (window_of z.heights z.rows s.offset s.selected 1).first

-- a pager whose state is sound
abbrev pub IsSoundPager : PagerData → Type 0
IsSoundPager p = IsSound (metrics_of p.entries p.width p.height) p.state

-- the entries whose titles the list draws in the rows inside its borders
abbrev pub titles_window : PagerData → Window
titles_window p =
    let list = titles_list p.entries in
    list_window list (inner_of list.block (titles_area p.width p.height)).height (list_state p.state)

-- the entry is one of those that are drawn, which start at the offset and fit together, so all lines of its title are
-- visible
pub record IsTitleVisible (p : PagerData) (place : ℕ) : Type 0 where
  pub offset : (titles_window p).first ≡ p.state.offset
  pub from_first : (titles_window p).first ≤ place
  pub before_end : place < (titles_window p).end
  pub within : (titles_window p).end ≤ length p.entries
  pub fit : total (metrics_of p.entries p.width p.height).heights (titles_window p).first (titles_window p).end ≤ p.height - 3

-- the selected entry is visible, if its title has at most as many lines as the list has rows
abbrev pub ShowsSelected : PagerData → Type 0
ShowsSelected p = (place : ℕ) → p.state.selected ≡ Some place
    → slice_index (metrics_of p.entries p.width p.height).heights place ≤ p.height - 3 → IsTitleVisible p place

-- a pager is sound after any calls
abbrev pub StaysSound : Type 0
StaysSound = (entries : List EntryData) (width height : ℕ) (calls : List Call) → IsSoundPager (after_calls (initial_pager entries width height) calls)

-- its selected entry is visible after any calls
abbrev pub SelectedIsVisible : Type 0
SelectedIsVisible = (entries : List EntryData) (width height : ℕ) (calls : List Call) →
    ShowsSelected (after_calls (initial_pager entries width height) calls)

-- a pager has exactly one screen
abbrev pub ScreenIsUnique : Type 0
ScreenIsUnique = (p : PagerData) (screen other : Screen) → IsDrawnOnBlank (pager_layers p) (page_area p.width p.height) screen →
    IsDrawnOnBlank (pager_layers p) (page_area p.width p.height) other → other ≡ screen
