-- Laws of drawing a table: its strokes stay in its footprint.
use Rattle.std.specs.Prelude.{
  ◌≡◌,
  ℕ,
  ◌+◌,
  ◌==◌,
  Bool,
  true,
  false,
  List,
  [],
  ◌∷◌,
  ◌++◌,
  drop,
  take,
  flat_map,
  length,
  slice_get,
  slice_range,
  Option,
  None,
  Some,
  option_map,
  if◌then◌else◌,
}
use Rattle.std.specs.List.{enumerate_from}
use Rattle.tui_cells.specs.declared.rect.Rect.{Rect}
use Rattle.tui_cells.specs.declared.style.Style.{Style}
use Rattle.tui_cells.specs.Cell.{set_style}
use Rattle.tui_cells.specs.Layers.{Layer, StayIn}
use Rattle.tui_cells.specs.Rect.{columns_from, covers, is_empty, rows_from}
use Rattle.tui_cells.specs.Stays.{StayIn-append, StayIn-none, StayIn-stroke}
use Rattle.tui_cells.proofs.Regions.{StayIn-wider, columns_out, outside_both, rows_out}
use Rattle.tui_frames.specs.Footprint.{footprint_if}
use Rattle.tui_frames.specs.InBlock.{inner_of}
use Rattle.tui_frames.specs.InBlockStays.{block_stays_if, clip_stays, inner_stays}
use Rattle.tui_layout.specs.declared.segment.Segment.{Segment}
use Rattle.tui_table.specs.Areas.{area_in, body_of, columns_in, gutter_of, height_if, room_of}
use Rattle.tui_table.specs.Cell.{CellData}
use Rattle.tui_table.specs.Moves.{column_after, row_after, table_window}
use Rattle.tui_table.specs.Row.{RowData}
use Rattle.tui_table.specs.Strokes.{
  body_if,
  body_layers,
  both_areas,
  cell_layers,
  cells_layers,
  content_layers,
  dress_if_some,
  edge_layers,
  highlight_layers,
  kind_at,
  over_columns,
  row_area,
  row_in,
  row_layers,
  rows_layers,
  selected_column,
  selected_row,
  span_in,
  symbol_layers,
  table_layers,
  text_over,
}
use Rattle.tui_table.specs.Table.{TableData}
use Rattle.tui_table.specs.declared.row_kind.RowKind.{RowKind}
use Rattle.tui_table.specs.declared.row_kind.RowKind.TheVariants.{Edge, Plain, Selected}
use Rattle.tui_table.specs.declared.state.TableState.{TableState}
use Rattle.tui_text.specs.Text.{TextData}
use Rattle.tui_text.proofs.RowStays.{text_stays}

-- strokes that stay in some rows of an area, or in some columns, stay in the area
in_rows : (r : Rect) (from count : ℕ) {ls : List Layer} → StayIn (covers (rows_from r from count)) ls → StayIn (covers r) ls
in_rows r from count s = StayIn-wider (λ x y out. rows_out r from count x y out) s

in_columns : (r : Rect) (from count : ℕ) {ls : List Layer} → StayIn (covers (columns_from r from count)) ls → StayIn (covers r) ls
in_columns r from count s = StayIn-wider (λ x y out. columns_out r from count x y out) s

dress_stays : (area : Rect) (style : Style) → StayIn (covers area) (dress_if_some style (Some area))
dress_stays area style = StayIn-stroke (covers area) (set_style style) (λ x y out. out)

-- a text over an area stays there
pub over_stays : (area : Rect) (style : Style) (text : TextData) → StayIn (covers area) (text_over area style text)
unfolding text_over
over_stays area style text = StayIn-append (dress_stays area style) (text_stays area text)

cell_stays : (area : Rect) (gutter spacing : ℕ) (columns : List Segment) (c : CellData) →
    StayIn (covers area) (cell_layers area gutter spacing columns c)
unfolding cell_layers
cell_stays area gutter spacing [] c = StayIn-none
cell_stays area gutter spacing (k ∷ ks) c = in_columns area _ _ (over_stays (over_columns area gutter spacing k ks) c.style c.content)

cells_stay : (area : Rect) (gutter spacing : ℕ) (kind : RowKind) (columns : List Segment) (cs : List CellData) →
    StayIn (covers area) (cells_layers area gutter spacing kind columns cs)
unfolding cells_layers
cells_stay area gutter spacing kind columns [] = StayIn-none
cells_stay area gutter spacing kind columns (c ∷ cs) =
    StayIn-append (cell_stays area gutter spacing (take (span_in kind c) columns) c)
    (cells_stay area gutter spacing kind (drop (span_in kind c) columns) cs)

symbol_stays : (t : TableData) (gutter : ℕ) (kind : RowKind) (area : Rect) (style : Style) →
    StayIn (covers area) (symbol_layers t gutter kind area style)
symbol_stays t gutter Edge area style = StayIn-none
symbol_stays t gutter Plain area style = StayIn-none
symbol_stays t gutter Selected area style = in_columns area 0 gutter (over_stays (columns_from area 0 gutter) style t.symbol)

row_stays : (t : TableData) (gutter : ℕ) (columns : List Segment) (kind : RowKind) (area : Rect) (r : RowData) →
    StayIn (covers area) (row_layers t gutter columns kind area r)
unfolding row_layers
row_stays t gutter columns kind area r =
    StayIn-append (dress_stays area r.style) (StayIn-append (symbol_stays t gutter kind area r.style)
    (cells_stay area gutter t.spacing kind columns r.cells))

edge_stays : (t : TableData) (inner : Rect) (gutter : ℕ) (columns : List Segment) (from : ℕ) (o : Option RowData) →
    StayIn (covers inner) (edge_layers t inner gutter columns from o)
unfolding edge_layers
edge_stays t inner gutter columns from None = StayIn-none
edge_stays t inner gutter columns from (Some r) = in_rows inner _ _ (row_stays t gutter columns Edge (area_in inner from r) r)

each_stays : (t : TableData) (body : Rect) (gutter : ℕ) (columns : List Segment) (selected : Option ℕ) (first : ℕ) (rows : List (ℕ × RowData)) →
    StayIn (covers body) (flat_map (row_in t body gutter columns selected first) rows)
each_stays t body gutter columns selected first [] = StayIn-none
each_stays t body gutter columns selected first ((i, r) ∷ rows) =
    StayIn-append (in_rows body _ _ (row_stays t gutter columns (kind_at selected i) (row_area t body first i r) r))
    (each_stays t body gutter columns selected first rows)

rows_stay : (t : TableData) (body : Rect) (gutter : ℕ) (columns : List Segment) (selected : Option ℕ) (first last : ℕ) →
    StayIn (covers body) (rows_layers t body gutter columns selected first last)
unfolding rows_layers
rows_stay t body gutter columns selected first last = each_stays t body gutter columns selected first (slice_range (enumerate_from 0 t.rows) first last)

-- an area, if there is one, within another
abbrev OutOf : Rect → Option Rect → Type 0
OutOf body None = Unit {0}
OutOf body (Some area) = (x y : ℕ) → covers body x y ≡ false → covers area x y ≡ false

row_if_out : (t : TableData) (body : Rect) (first s : ℕ) (r : Option RowData) → OutOf body (option_map (row_area t body first s) r)
row_if_out t body first s None = tt
row_if_out t body first s (Some r) = rows_out body _ _

row_out : (t : TableData) (body : Rect) (first : ℕ) (selected : Option ℕ) → OutOf body (selected_row t body first selected)
row_out t body first None = tt
row_out t body first (Some s) = row_if_out t body first s (slice_get t.rows s)

column_if_out : (body : Rect) (gutter : ℕ) (k : Option Segment) → OutOf body (option_map (λ k. columns_from body (gutter + k.start) k.width) k)
column_if_out body gutter None = tt
column_if_out body gutter (Some k) = columns_out body _ _

column_out : (body : Rect) (gutter : ℕ) (columns : List Segment) (selected : Option ℕ) → OutOf body (selected_column body gutter columns selected)
column_out body gutter columns None = tt
column_out body gutter columns (Some s) = column_if_out body gutter (slice_get columns s)

both_out : (body : Rect) (a b : Option Rect) → OutOf body a → OutOf body (both_areas a b)
both_out body None b p = tt
both_out body (Some a) None p = tt
both_out body (Some a) (Some b) p = λ x y out. outside_both a b x y (p x y out)

dressed_stays : (body : Rect) (style : Style) (o : Option Rect) → OutOf body o → StayIn (covers body) (dress_if_some style o)
dressed_stays body style None p = StayIn-none
dressed_stays body style (Some area) p = StayIn-stroke (covers area) (set_style style) p

highlights_stay : (t : TableData) (body : Rect) (row column : Option Rect) → OutOf body row → OutOf body column →
    StayIn (covers body) (highlight_layers t row column)
unfolding highlight_layers
highlights_stay t body row column p q =
    StayIn-append (dressed_stays body t.row_style row p)
    (StayIn-append (dressed_stays body t.column_style column q) (dressed_stays body t.cell_style (both_areas row column) (both_out body row column p)))

-- the rows stay in the body
pub body_stays : (t : TableData) (body : Rect) (gutter : ℕ) (columns : List Segment) (selected column : Option ℕ) (first last : ℕ) →
    StayIn (covers body) (body_layers t body gutter columns selected column first last)
unfolding body_layers
body_stays t body gutter columns selected column first last =
    StayIn-append (rows_stay t body gutter columns selected first (last + 1))
    (highlights_stay t body _ _ (row_out t body first selected) (column_out body gutter columns column))

body_if_stays : (t : TableData) (inner : Rect) (gutter : ℕ) (columns : List Segment) (s : TableState) (none : Bool) →
    StayIn (covers inner) (if none then [] else
    body_layers t (body_of t inner) gutter columns (row_after t s) (column_after t s)
    (table_window t inner.height s).first (table_window t inner.height s).end)
body_if_stays t inner gutter columns s true = StayIn-none
body_if_stays t inner gutter columns s false =
    in_rows inner _ _ (body_stays t (body_of t inner) gutter columns (row_after t s) (column_after t s)
    (table_window t inner.height s).first (table_window t inner.height s).end)

parts_stay : (t : TableData) (inner : Rect) (gutter : ℕ) (columns : List Segment) (s : TableState) (empty : Bool) →
    StayIn (covers inner) (if empty then [] else
    edge_layers t inner gutter columns 0 t.header
    ++ (body_if t inner gutter columns s ++ edge_layers t inner gutter columns (height_if t.header + room_of t inner.height) t.footer))
parts_stay t inner gutter columns s true = StayIn-none
parts_stay t inner gutter columns s false =
    StayIn-append (edge_stays t inner gutter columns 0 t.header)
    (StayIn-append (body_if_stays t inner gutter columns s (length t.rows == 0)) (edge_stays t inner gutter columns _ t.footer))

-- what is inside the block stays there
pub content_stays : (t : TableData) (inner : Rect) (s : TableState) → StayIn (covers inner) (content_layers t inner s)
unfolding content_layers
content_stays t inner s = parts_stay t inner (gutter_of t inner.width (row_after t s)) (columns_in t inner.width (row_after t s)) s (is_empty inner)

-- a table changes only cells of its footprint
pub table_stays : (t : TableData) (s : TableState) (clip : Rect) → StayIn (footprint_if t.block clip) (table_layers t s clip)
table_stays t s clip =
    StayIn-append (clip_stays t.block clip (StayIn-stroke (covers clip) (set_style t.style) (λ x y out. out)))
    (StayIn-append (block_stays_if t.block clip) (inner_stays t.block clip (content_stays t (inner_of t.block clip) s)))
