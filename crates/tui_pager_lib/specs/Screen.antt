-- What a pager shows, as the layers of its widgets.
use Rattle.std.specs.Prelude.{
  ℕ,
  ◌≡◌,
  ◌+◌,
  ◌-◌,
  ◌/◌,
  true,
  List,
  [],
  ◌∷◌,
  ◌++◌,
  length,
  map,
  Option,
  None,
  Some,
  codes,
  decimal,
  slice_index_or,
}
use Rattle.tui_cells.specs.Buffer.{IsScreen, Screen, cell_at}
use Rattle.tui_cells.specs.Cell.{blank}
use Rattle.tui_cells.specs.Layers.{Layer, layers_at}
use Rattle.tui_cells.specs.Rect.{covers}
use Rattle.tui_cells.specs.Style.{no_style}
use Rattle.tui_cells.specs.declared.rect.Rect.{Rect}
use Rattle.tui_frames.specs.Block.{BlockData, block_of}
use Rattle.tui_lists.specs.List.{ListData, list_of}
use Rattle.tui_lists.specs.ListItem.{ListItemData, heights_of}
use Rattle.tui_lists.specs.ListStrokes.{list_layers}
use Rattle.tui_lists.specs.Scrollbar.{ScrollbarData, scrollbar_of}
use Rattle.tui_lists.specs.ScrollbarStrokes.{scrollbar_layers}
use Rattle.tui_lists.specs.Tabs.{reversed}
use Rattle.tui_lists.specs.declared.list.state.ListState.{ListState}
use Rattle.tui_lists.specs.declared.scrollbar.orientation.ScrollbarOrientation.TheVariants.{VerticalRight}
use Rattle.tui_lists.specs.declared.scrollbar.state.ScrollbarState.{ScrollbarState}
use Rattle.tui_para.specs.Hyphens.{at_blanks}
use Rattle.tui_para.specs.Paragraph.{ParagraphData, paragraph_of}
use Rattle.tui_para.specs.Rendering.{paragraph_layers}
use Rattle.tui_para.specs.WrappedText.{wrap_text}
use Rattle.tui_text.specs.Line.{raw_line}
use Rattle.tui_text.specs.Text.{raw_text}
use Rattle.tui_text.specs.declared.alignment.Alignment.TheVariants.{Left}
use Rattle.tui_pager_lib.specs.Entry.{EntryData}
use Rattle.tui_pager_lib.specs.Pager.{PagerData}
use Rattle.tui_pager_lib.specs.Steps.{PagerMetrics, max_line_of}
use Rattle.tui_pager_lib.specs.declared.state.PagerState.{PagerState}

-- The screen. One third of its width is for the titles, the rest for the body, and one row is below both.
abbrev pub page_area : ℕ → ℕ → Rect
page_area width height = record { x = 0; y = 0; width = width; height = height }

-- the left third without the last row
abbrev pub titles_area : ℕ → ℕ → Rect
titles_area width height = record { x = 0; y = 0; width = width / 3; height = height - 1 }

-- the area right of the titles, without the last row
abbrev pub body_area : ℕ → ℕ → Rect
body_area width height = record { x = width / 3; y = 0; width = width - width / 3; height = height - 1 }

-- the bar, on the right border of the body's block, between its corners
abbrev pub bar_area : ℕ → ℕ → Rect
bar_area width height = record { x = width - 1; y = 1; width = 1; height = height - 3 }

-- the last row
abbrev pub last_row : ℕ → ℕ → Rect
last_row width height = record { x = 0; y = height - 1; width = width; height = 1 }

-- a title as an item of the list
abbrev pub title_item : EntryData → ListItemData
title_item e = record { content = raw_text e.title; style = no_style }

-- the block around the titles
abbrev pub titles_block : BlockData
titles_block = record (block_of 15) { titles = record { line = raw_line (codes "Entries"); position = None } ∷ [] }

-- a list of items in this block, with one entry of padding around the selected one
abbrev pub list_over : List ListItemData → ListData
list_over items = record (list_of items) {
  block = Some titles_block;
  symbol = Some (raw_line (codes ">"));
  highlight_style = reversed;
  padding = 1;
}

-- the list of the titles
abbrev pub titles_list : List EntryData → ListData
titles_list entries = list_over (map title_item entries)

-- the state of that list
abbrev pub list_state : PagerState → ListState
list_state s = record { offset = s.offset; selected = s.selected }

-- the text of the selected body, empty if no entry is selected
abbrev pub body_of : List EntryData → Option ℕ → List ℕ
body_of entries None = []
body_of entries (Some place) = (slice_index_or entries place (record { title = []; body = [] })).body

-- The body from a line on, without its block. Spaces at which a line breaks are dropped, and no line breaks after a
-- hyphen.
abbrev pub unframed : List ℕ → ℕ → ParagraphData
unframed body line = record (paragraph_of (raw_text body)) { wrap = Some (at_blanks true); scroll_y = line }

-- the body inside its block
abbrev pub body_paragraph : List ℕ → ℕ → ParagraphData
body_paragraph body line = record (unframed body line) { block = Some (block_of 15) }

-- a scrollbar without symbols at its ends, over the lines that the body may start with
abbrev pub bar : ScrollbarData
bar = record (scrollbar_of VerticalRight) { begin = None; end = None }

-- the state of the scrollbar: one position for each line that the body may start with
abbrev pub bar_state : ℕ → ℕ → ℕ → ScrollbarState
bar_state rows most line = record { content_length = most + 1; position = line; viewport_content_length = rows }

-- how many lines a body is wrapped into at a width
abbrev pub body_height : ℕ → List ℕ → ℕ
body_height width body = length (wrap_text width (at_blanks true) Left (raw_text body))

-- how many lines each body has
abbrev pub body_lines : List EntryData → ℕ → List ℕ
body_lines entries width = map (λ e. body_height (width - width / 3 - 2) e.body) entries

-- what the steps need to know of a pager
abbrev pub metrics_of : List EntryData → ℕ → ℕ → PagerMetrics
metrics_of entries width height = record {
  rows = height - 3;
  heights = heights_of (map title_item entries);
  lines = body_lines entries width;
}

-- the position of the selected entry, from 1, or 0 if none is selected
abbrev pub entry_number : Option ℕ → ℕ
entry_number None = 0
entry_number (Some place) = place + 1

-- the position and the number of entries
abbrev pub last_row_text : Option ℕ → ℕ → List ℕ
last_row_text selected count = decimal (entry_number selected) ++ (codes "/" ++ decimal count)

-- the titles, the body, the scrollbar and the last row, in this order
unfoldable pub pager_layers : PagerData → List Layer
pager_layers p =
    let most = max_line_of (metrics_of p.entries p.width p.height) p.state.selected in
    list_layers (titles_list p.entries) (list_state p.state) (titles_area p.width p.height)
    ++ (paragraph_layers (body_paragraph (body_of p.entries p.state.selected) p.state.line) (body_area p.width p.height)
    ++ (scrollbar_layers bar (bar_state (p.height - 3) most p.state.line) (bar_area p.width p.height)
    ++ paragraph_layers (paragraph_of (raw_text (last_row_text p.state.selected (length p.entries)))) (last_row p.width p.height)))

-- a screen with this area and its shape, in which each cell is the blank one under the layers
pub record IsDrawnOnBlank (layers : List Layer) (area : Rect) (screen : Screen) : Type 0 where
  pub area_is : screen.area ≡ area
  pub cells : (x y : ℕ) → covers area x y ≡ true → cell_at screen x y ≡ Some (layers_at layers x y blank)
  pub shape : IsScreen screen
