-- What a browser draws.
use Rattle.std.specs.Prelude.{◌≡◌, ℕ, ◌-◌, ◌/◌, ◌&&◌, Bool, true, false, nat_lt, List, [], ◌∷◌, map, Option, None, Some, IsSome, codes, string_bytes, unwrap_or}
use Rattle.tui_app.specs.TooSmall.{DrawsTooSmall}
use Rattle.tui_cells.specs.Buffer.{Screen, cell_at}
use Rattle.tui_cells.specs.Cell.{blank}
use Rattle.tui_cells.specs.Layers.{layers_at}
use Rattle.tui_cells.specs.Rect.{columns_from, covers, intersection_of, rows_from}
use Rattle.tui_cells.specs.Style.{no_style}
use Rattle.tui_cells.specs.declared.position.Position.{Position}
use Rattle.tui_cells.specs.declared.rect.Rect.{Rect}
use Rattle.tui_frames.specs.Block.{BlockData, block_of}
use Rattle.tui_frames.specs.InBlock.{inner_of}
use Rattle.tui_files_lib.specs.Rows.{row_label}
use Rattle.tui_files_lib.specs.declared.browser.Browser.{Browser}
use Rattle.tui_input.specs.Input.{InputMoves, bare_input, cursor_in, input_after}
use Rattle.tui_input.specs.State.{TypedText}
use Rattle.tui_lists.specs.List.{ListData, ListMoves, list_of}
use Rattle.tui_lists.specs.ListItem.{ListItemData}
use Rattle.tui_lists.specs.ListStrokes.{list_layers}
use Rattle.tui_lists.specs.Tabs.{reversed}
use Rattle.tui_lists.specs.declared.list.state.ListState.{ListState}
use Rattle.tui_text.specs.Line.{raw_line}
use Rattle.tui_text.specs.Text.{empty_text}

-- a row as an item of the list: one line
abbrev pub row_item : List ℕ → ListItemData
row_item label = record { content = record empty_text { lines = raw_line label ∷ [] }; style = no_style }

-- borders on all sides, and a title
abbrev pub titled_block : List ℕ → BlockData
titled_block title = record (block_of 15) { titles = record { line = raw_line title; position = None } ∷ [] }

-- the list of items in a block with a title
abbrev pub list_over : List ListItemData → List ℕ → ListData
list_over items title = record (list_of items) {
  block = Some (titled_block title);
  symbol = Some (raw_line (codes ">"));
  highlight_style = reversed;
}

-- the list of the names that a browser shows
abbrev pub names_list : Browser → ListData
names_list b = list_over (map row_item (map row_label b.rows.items)) (string_bytes b.title)

-- its area: the left half of all rows but the last
abbrev pub names_area : Rect → Rect
names_area area = columns_from (rows_from area 0 (area.height - 1)) 0 (area.width / 2)

-- the beginning of a file is shown in the right half, and the status in the last row
abbrev pub head_area : Rect → Rect
head_area area = columns_from (rows_from area 0 (area.height - 1)) (area.width / 2) (area.width - area.width / 2)

abbrev pub status_area : Rect → Rect
status_area area = rows_from area (area.height - 1) 1

-- the filter is typed there, after a slash
abbrev pub filter_area : Rect → Rect
filter_area area = columns_from (status_area area) 1 (area.width - 1)

-- whether a screen has room for a browser
abbrev pub has_room : Rect → Bool
has_room area = nat_lt 11 area.width && nat_lt 4 area.height

-- the selected row; 0 if none is selected
abbrev pub selected_row : ListState → ℕ
selected_row s = unwrap_or s.selected 0

-- a list's state with that row selected
abbrev pub selecting : ListState → ListState
selecting s = record s { selected = Some (selected_row s) }

-- A list is drawn on blank cells, with the state `is`. That state has moved least from `was` for the selected name to
-- be visible.
pub record ShowsNames (l : ListData) (was is : ListState) (screen : Screen) : Type 0 where
  pub moves : ListMoves l (inner_of l.block (names_area screen.area)) was is
  pub cells : (x y : ℕ) → covers (names_area screen.area) x y ≡ true →
      cell_at screen x y ≡ Some (layers_at (list_layers l is (names_area screen.area)) x y blank)

-- A text input is drawn in an area of a screen. `is` is its state after the drawing, and `place` is where its cursor is
-- shown.
pub record TypesIn (area screen : Rect) (was is : TypedText) (place : Option Position) : Type 0 where
  pub state : is ≡ input_after bare_input (intersection_of area screen) was
  pub cursor : place ≡ cursor_in bare_input area is
  pub moves : InputMoves bare_input (intersection_of area screen) was is

-- the cursor of the filter is visible
pub record ShowsCursor (filter_text : TypedText) (screen : Screen) (place : Option Position) : Type 0 where
  pub cursor : place ≡ cursor_in bare_input (filter_area screen.area) filter_text
  pub seen : IsSome place

-- while the filter is typed; otherwise there is no cursor, and the filter is unchanged
pub record DrawsFilter (old : Browser) (screen : Screen) (place : Option Position) (new : Browser) : Type 0 where
  pub typed : old.is_typing ≡ true →
      ShowsCursor new.filter_text screen place
      × (new.filter_text ≡ input_after bare_input (filter_area screen.area) old.filter_text)
  pub other : old.is_typing ≡ false → (place ≡ None) × (new.filter_text ≡ old.filter_text)

-- The names and the filter are drawn if there is room. Of the browser only these change: the list's state; the length
-- of a page, which is the number of the list's rows; and how far the filter is scrolled. If there is no room the screen
-- shows `too small`, and the browser stays the same.
pub record BrowserDraws (old : Browser) (screen : Screen) (place : Option Position) (new : Browser) : Type 0 where
  pub stays : new ≡ record old { state = new.state; page = new.page; filter_text = new.filter_text }
  pub names : has_room screen.area ≡ true → ShowsNames (names_list new) (selecting old.state) new.state screen
  pub page : has_room screen.area ≡ true → new.page ≡ screen.area.height - 3
  pub filter_text : has_room screen.area ≡ true → DrawsFilter old screen place new
  pub other : has_room screen.area ≡ false → DrawsTooSmall screen × (place ≡ None) × (new ≡ old)
