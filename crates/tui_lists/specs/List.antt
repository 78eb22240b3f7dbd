-- A list as plain data, and the state that a drawing leaves.
use Rattle.std.specs.Prelude.{◌≡◌, ℕ, ◌<◌, ◌≤◌, ◌==◌, Bool, true, false, List, length, slice_index, Option, None, Some, option_map, if◌then◌else◌}
use Rattle.tui_cells.specs.declared.rect.Rect.{Rect}
use Rattle.tui_cells.specs.declared.style.Style.{Style}
use Rattle.tui_cells.specs.Rect.{is_empty}
use Rattle.tui_cells.specs.Style.{no_style}
use Rattle.tui_frames.specs.Block.{BlockData, block_data}
use Rattle.tui_layout.specs.Found.{window_of}
use Rattle.tui_layout.specs.Sums.{total}
use Rattle.tui_layout.specs.Window.{IsFirst, cut_selection}
use Rattle.tui_layout.specs.declared.highlight_spacing.HighlightSpacing.{HighlightSpacing}
use Rattle.tui_layout.specs.declared.highlight_spacing.HighlightSpacing.TheVariants.{WhenSelected}
use Rattle.tui_layout.specs.declared.window.Window.{Window}
use Rattle.tui_lists.specs.Items.{items_data}
use Rattle.tui_lists.specs.ListItem.{ListItemData, heights_of}
use Rattle.tui_lists.specs.ListState.{default_state}
use Rattle.tui_lists.specs.declared.direction.ListDirection.{ListDirection}
use Rattle.tui_lists.specs.declared.direction.ListDirection.TheVariants.{TopToBottom}
use Rattle.tui_lists.specs.declared.list.List as widget
use Rattle.tui_lists.specs.declared.list.state.ListState.{ListState}
use Rattle.tui_text.specs.Line.{LineData, line_data}

-- a list as plain data
pub record ListData : Type 0 where
  pub block : Option BlockData
  pub items : List ListItemData
  pub style : Style
  pub symbol : Option LineData
  pub highlight_style : Style
  pub repeats : Bool
  pub spacing : HighlightSpacing
  pub direction : ListDirection
  pub padding : ℕ

-- a list of the code as plain data
abbrev pub list_data : widget.List → ListData
list_data l = record {
  block = option_map block_data l.block;
  items = items_data l.items;
  style = l.style;
  symbol = option_map line_data l.highlight_symbol;
  highlight_style = l.highlight_style;
  repeats = l.repeat_highlight_symbol;
  spacing = l.highlight_spacing;
  direction = l.direction;
  padding = l.scroll_padding;
}

-- a list of items with default settings
abbrev pub list_of : List ListItemData → ListData
list_of items = record {
  block = None;
  items = items;
  style = no_style;
  symbol = None;
  highlight_style = no_style;
  repeats = false;
  spacing = WhenSelected;
  direction = TopToBottom;
  padding = 0;
}

-- the window of items that are shown in this many rows
abbrev pub list_window : ListData → ℕ → ListState → Window
list_window l room s = window_of (heights_of l.items) room s.offset s.selected l.padding

-- the state after a drawing in this many rows
abbrev pub list_moved : ListData → ℕ → ListState → ListState
list_moved l room s = record { offset = (list_window l room s).first; selected = cut_selection (heights_of l.items) s.selected }

-- the state after a drawing of the items in an area
unfoldable pub list_after : ListData → Rect → ListState → ListState
list_after l inner s = if is_empty inner then s else (if length l.items == 0 then default_state else list_moved l inner.height s)

-- an item is among those from the offset on that fit together
pub record IsSeen (heights : List ℕ) (room offset place : ℕ) : Type 0 where
  pub last : ℕ
  pub from_offset : offset ≤ place
  pub before_last : place < last
  pub within : last ≤ length heights
  pub fits : total heights offset last ≤ room

-- What a user can rely on. If the area is empty, the state is unchanged. If there are no items, nothing is selected and
-- the offset is 0. Otherwise the selection is at most the last item, and the offset moves as little as possible to show
-- it with its padding. So a selected item that fits is shown.
pub record ListMoves (l : ListData) (inner : Rect) (old new : ListState) : Type 0 where
  pub stays : is_empty inner ≡ true → new ≡ old
  pub none : is_empty inner ≡ false → length l.items ≡ 0 → new ≡ default_state
  pub selected : is_empty inner ≡ false → 0 < length l.items → new.selected ≡ cut_selection (heights_of l.items) old.selected
  pub least : is_empty inner ≡ false → 0 < length l.items →
      IsFirst (heights_of l.items) inner.height old.offset new.selected l.padding new.offset
  pub seen : is_empty inner ≡ false → 0 < length l.items → (place : ℕ) → new.selected ≡ Some place →
      slice_index (heights_of l.items) place ≤ inner.height →
      IsSeen (heights_of l.items) inner.height new.offset place
