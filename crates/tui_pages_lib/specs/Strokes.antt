-- The strokes of a page.
use Rattle.std.specs.Prelude.{ℕ, ◌+◌, ◌-◌, ◌<◌, ◌≤◌, List, [], ◌∷◌, ◌++◌, length, min, true, Some, flat_map, zip, slice_index_or, codes, decimal}
use Rattle.tui_cells.specs.Layers.{Layer}
use Rattle.tui_cells.specs.Rect.{area_of, columns_from, intersection_of, right_of, rows_from}
use Rattle.tui_cells.specs.Style.{no_style}
use Rattle.tui_cells.specs.declared.rect.Rect.{Rect}
use Rattle.tui_layout.specs.declared.segment.Segment.{Segment}
use Rattle.tui_para.specs.Hyphens.{at_blanks}
use Rattle.tui_para.specs.Paragraph.{ParagraphData, paragraph_of}
use Rattle.tui_para.specs.Rendering.{paragraph_layers}
use Rattle.tui_pages_lib.specs.Heights.{max_lines}
use Rattle.tui_pages_lib.specs.Pages.{size_of}
use Rattle.tui_pages_lib.specs.Report.{ColumnData, ReportData, places_of}
use Rattle.tui_pages_lib.specs.declared.piece.Piece.{Piece}
use Rattle.tui_text.specs.Setting.{set_layers, styled_text}
use Rattle.tui_text.specs.Text.{raw_text}

-- a text that is not wrapped
abbrev pub unwrapped : List ℕ → ParagraphData
unwrapped text = paragraph_of (raw_text text)

-- a cell, wrapped and scrolled to one of its lines
abbrev pub cell_from : ℕ → List ℕ → ParagraphData
cell_from line cell = record (unwrapped cell) { wrap = Some (at_blanks true); scroll_y = line }

-- the number of a page, counted from 1, and the number of pages
abbrev pub number_of : ℕ → ℕ → List ℕ
number_of at count = decimal (at + 1) ++ (codes "/" ++ decimal count)

-- a paragraph in an area, as far as the area is in the buffer's area
unfoldable pub paragraph_in : Rect → Rect → ParagraphData → List Layer
paragraph_in buffer area p = paragraph_layers p (intersection_of area buffer)

-- a text of one column a byte in the first row of such an area; it ends at the right edge or is cut there
unfoldable pub right_layers : Rect → Rect → List ℕ → List Layer
right_layers buffer area text =
    let clip = intersection_of area buffer in
    let room = min clip.width (length text) in
    set_layers clip (record { x = right_of clip - room; y = clip.y }) (styled_text text no_style) room

-- one item in each column, side by side in the same rows
unfoldable pub side_by_side : {X : Type 0} → (Rect → X → List Layer) → Rect → List Segment → List X → List Layer
side_by_side layers rows places xs =
    flat_map (λ (place, x). layers (columns_from rows place.start place.width) x) (zip places xs)

-- the columns' names
abbrev pub names_layers : Rect → Rect → List Segment → List ColumnData → List Layer
names_layers buffer = side_by_side (λ area c. paragraph_in buffer area (unwrapped c.name))

-- the cells of a record from one of its lines on
abbrev pub cells_layers : ℕ → Rect → Rect → List Segment → List (List ℕ) → List Layer
cells_layers line buffer = side_by_side (λ area cell. paragraph_in buffer area (cell_from line cell))

-- pieces one below the other, from a row of the page on
unfoldable pub pieces_layers : Rect → Rect → List Segment → List (List (List ℕ)) → ℕ → List Piece → List Layer
pieces_layers buffer page places records row [] = []
pieces_layers buffer page places records row (p ∷ ps) =
    cells_layers p.from buffer (rows_from page row (size_of p)) places (slice_index_or records p.place []) ++
    pieces_layers buffer page places records (row + size_of p) ps

-- a piece of one of `count` records; it has at least one line, and none past the greatest number of lines of a record
pub record IsDrawable (count : ℕ) (p : Piece) : Type 0 where
  pub place : p.place < count
  pub some : p.from < p.to
  pub bounded : p.to ≤ max_lines

-- the area of a page
abbrev pub page_area : ReportData → Rect
page_area r = area_of 0 0 r.width r.height

-- the rows of the title and the names
abbrev pub head_area : ReportData → Rect
head_area r = rows_from (page_area r) 0 2

-- the rows below them
abbrev pub body_area : ReportData → Rect
body_area r = rows_from (page_area r) 2 (r.height - 2)

-- the title and the names, the same on all pages
unfoldable pub head_layers : ReportData → Rect → List Layer
head_layers r buffer =
    paragraph_in buffer (rows_from (page_area r) 0 1) (unwrapped r.title) ++
    names_layers buffer (rows_from (page_area r) 1 1) (places_of r.width r.columns) r.columns

-- the pieces and, in the last row at the right, the page's number
unfoldable pub body_layers : ReportData → ℕ → Rect → List Layer
body_layers r at buffer =
    let page = page_area r in
    pieces_layers buffer page (places_of r.width r.columns) r.records 2 (slice_index_or r.pages at []) ++
    right_layers buffer (rows_from page (r.height - 1) 1) (number_of at (length r.pages))

-- all of a page
unfoldable pub page_layers : ReportData → ℕ → Rect → List Layer
page_layers r at buffer = head_layers r buffer ++ body_layers r at buffer
