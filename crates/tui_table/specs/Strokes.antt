-- The strokes of a table.
use Rattle.std.specs.Prelude.{
  ℕ,
  ◌+◌,
  ◌*◌,
  ◌==◌,
  List,
  [],
  ◌∷◌,
  ◌++◌,
  drop,
  take,
  flat_map,
  length,
  sum_by,
  slice_get,
  slice_range,
  Option,
  None,
  Some,
  option_map,
  if◌then◌else◌,
}
use Rattle.std.specs.List.{enumerate_from}
use Rattle.tui_cells.specs.declared.rect.Rect.{Rect}
use Rattle.tui_cells.specs.declared.style.Style.{Style}
use Rattle.tui_cells.specs.Cell.{set_style}
use Rattle.tui_cells.specs.Layers.{Layer, stroke}
use Rattle.tui_cells.specs.Rect.{columns_from, covers, intersection_of, is_empty}
use Rattle.tui_frames.specs.InBlock.{block_layers_if, inner_of}
use Rattle.tui_layout.specs.Sums.{total}
use Rattle.tui_layout.specs.declared.segment.Segment.{Segment}
use Rattle.tui_table.specs.Areas.{area_in, body_of, columns_in, gutter_of, height_if, room_of}
use Rattle.tui_table.specs.Cell.{CellData}
use Rattle.tui_table.specs.Moves.{column_after, row_after, table_window}
use Rattle.tui_table.specs.Row.{RowData, heights_of}
use Rattle.tui_table.specs.Table.{TableData}
use Rattle.tui_table.specs.declared.row_kind.RowKind.{RowKind}
use Rattle.tui_table.specs.declared.row_kind.RowKind.TheVariants.{Edge, Plain, Selected}
use Rattle.tui_table.specs.declared.state.TableState.{TableState}
use Rattle.tui_text.specs.Painting.{text_layers}
use Rattle.tui_text.specs.Text.{TextData}

-- a style on an area, and a text over it
unfoldable pub text_over : Rect → Style → TextData → List Layer
text_over area style text = stroke (covers area) (set_style style) ++ text_layers area text

-- the part of an area that neighbouring columns take: from the first of them on, as wide as all of them with the
-- spacing between them
abbrev pub over_columns : Rect → ℕ → ℕ → Segment → List Segment → Rect
over_columns area gutter spacing k ks = columns_from area (gutter + k.start) (sum_by (λ c. c.width) (k ∷ ks) + spacing * length ks)

-- a cell in its columns; a cell without columns is not drawn
unfoldable pub cell_layers : Rect → ℕ → ℕ → List Segment → CellData → List Layer
cell_layers area gutter spacing [] c = []
cell_layers area gutter spacing (k ∷ ks) c = text_over (over_columns area gutter spacing k ks) c.style c.content

-- how many columns a cell takes: one in a header or a footer, else its span
abbrev pub span_in : RowKind → CellData → ℕ
span_in Edge c = 1
span_in _ c = c.span

-- cells in order, each in as many of the next columns as it spans
unfoldable pub cells_layers : Rect → ℕ → ℕ → RowKind → List Segment → List CellData → List Layer
cells_layers area gutter spacing kind columns [] = []
cells_layers area gutter spacing kind columns (c ∷ cs) =
    cell_layers area gutter spacing (take (span_in kind c) columns) c ++ cells_layers area gutter spacing kind (drop (span_in kind c) columns) cs

-- the highlight symbol, in the selected row only
abbrev pub symbol_layers : TableData → ℕ → RowKind → Rect → Style → List Layer
symbol_layers t gutter Selected area style = text_over (columns_from area 0 gutter) style t.symbol
symbol_layers t gutter _ area style = []

-- a row: its style, the highlight symbol in that style, and its cells
unfoldable pub row_layers : TableData → ℕ → List Segment → RowKind → Rect → RowData → List Layer
row_layers t gutter columns kind area r =
    stroke (covers area) (set_style r.style)
    ++ (symbol_layers t gutter kind area r.style ++ cells_layers area gutter t.spacing kind columns r.cells)

-- the header or the footer, if there is one, after `from` rows
unfoldable pub edge_layers : TableData → Rect → ℕ → List Segment → ℕ → Option RowData → List Layer
edge_layers t inner gutter columns from None = []
edge_layers t inner gutter columns from (Some r) = row_layers t gutter columns Edge (area_in inner from r) r

-- the area of row i, after the rows from `first` on, which is the first one that is shown
abbrev pub row_area : TableData → Rect → ℕ → ℕ → RowData → Rect
row_area t body first i r = area_in body (total (heights_of t.rows) first i) r

-- the role of row i of the body
abbrev pub kind_at : Option ℕ → ℕ → RowKind
kind_at None i = Plain
kind_at (Some s) i = if s == i then Selected else Plain

-- a row of the body, with its index
abbrev pub row_in : TableData → Rect → ℕ → List Segment → Option ℕ → ℕ → ℕ × RowData → List Layer
row_in t body gutter columns selected first (i, r) = row_layers t gutter columns (kind_at selected i) (row_area t body first i r) r

-- the rows `first..last`, the first of which is the first one that is shown
unfoldable pub rows_layers : TableData → Rect → ℕ → List Segment → Option ℕ → ℕ → ℕ → List Layer
rows_layers t body gutter columns selected first last =
    flat_map (row_in t body gutter columns selected first) (slice_range (enumerate_from 0 t.rows) first last)

-- the area of the selected row, if there is one
abbrev pub selected_row : TableData → Rect → ℕ → Option ℕ → Option Rect
selected_row t body first None = None
selected_row t body first (Some s) = option_map (row_area t body first s) (slice_get t.rows s)

-- the area of the selected column, if there is one
abbrev pub selected_column : Rect → ℕ → List Segment → Option ℕ → Option Rect
selected_column body gutter columns None = None
selected_column body gutter columns (Some s) = option_map (λ k. columns_from body (gutter + k.start) k.width) (slice_get columns s)

-- the area that two areas have in common, if both exist
abbrev pub both_areas : Option Rect → Option Rect → Option Rect
both_areas (Some a) (Some b) = Some (intersection_of a b)
both_areas _ _ = None

-- a style on an area, if there is one
abbrev pub dress_if_some : Style → Option Rect → List Layer
dress_if_some style None = []
dress_if_some style (Some area) = stroke (covers area) (set_style style)

-- the selected row, then the selected column, then the cell where they meet
unfoldable pub highlight_layers : TableData → Option Rect → Option Rect → List Layer
highlight_layers t row column = dress_if_some t.row_style row
    ++ (dress_if_some t.column_style column ++ dress_if_some t.cell_style (both_areas row column))

-- The rows that are shown in full and one more, which is cut off, then the highlights. If no row of the screen is left,
-- the area of that one more row is empty.
unfoldable pub body_layers : TableData → Rect → ℕ → List Segment → Option ℕ → Option ℕ → ℕ → ℕ → List Layer
body_layers t body gutter columns selected column first last =
    rows_layers t body gutter columns selected first (last + 1)
    ++ highlight_layers t (selected_row t body first selected) (selected_column body gutter columns column)

-- the rows and the highlights; nothing if there are no rows
abbrev pub body_if : TableData → Rect → ℕ → List Segment → TableState → List Layer
body_if t inner gutter columns s = if length t.rows == 0 then [] else
    let w = table_window t inner.height s in body_layers t (body_of t inner) gutter columns (row_after t s) (column_after t s) w.first w.end

-- the header, the rows and the footer; nothing if the area is empty
unfoldable pub content_layers : TableData → Rect → TableState → List Layer
content_layers t inner s = if is_empty inner then [] else
    let gutter = gutter_of t inner.width (row_after t s) in
    let columns = columns_in t inner.width (row_after t s) in
    edge_layers t inner gutter columns 0 t.header
    ++ (body_if t inner gutter columns s ++ edge_layers t inner gutter columns (height_if t.header + room_of t inner.height) t.footer)

-- the style, the block, and the content inside it
abbrev pub table_layers : TableData → TableState → Rect → List Layer
table_layers t s clip = stroke (covers clip) (set_style t.style) ++ (block_layers_if t.block clip ++ content_layers t (inner_of t.block clip) s)
