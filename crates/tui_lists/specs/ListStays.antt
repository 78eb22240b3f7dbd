-- Laws of drawing a list: its strokes stay in its footprint.
use Rattle.std.specs.Prelude.{
  ℕ,
  zero,
  suc,
  ◌+◌,
  ◌-◌,
  ◌==◌,
  ◌&&◌,
  ◌||◌,
  min,
  max,
  Bool,
  true,
  false,
  List,
  [],
  ◌∷◌,
  drop,
  length,
  Option,
  None,
  Some,
  unwrap_or,
  if◌then◌else◌,
}
use Rattle.tui_cells.specs.declared.rect.Rect.{Rect}
use Rattle.tui_cells.specs.Cell.{set_style, write, space}
use Rattle.tui_cells.specs.Layers.{Layer, StayIn}
use Rattle.tui_cells.specs.Rect.{columns_from, covers, rows_from}
use Rattle.tui_cells.specs.Stays.{StayIn-append, StayIn-none, StayIn-over}
use Rattle.tui_cells.specs.Style.{no_style, patched}
use Rattle.tui_cells.proofs.Regions.{StayIn-wider, columns_out, rows_out}
use Rattle.tui_frames.specs.Footprint.{footprint_if}
use Rattle.tui_frames.specs.InBlock.{inner_of}
use Rattle.tui_frames.specs.InBlockStays.{block_stays_if, clip_stays, inner_stays}
use Rattle.tui_layout.specs.Window.{cut_selection}
use Rattle.tui_lists.specs.List.{ListData, list_window}
use Rattle.tui_lists.specs.ListItem.{ListItemData, heights_of, item_height}
use Rattle.tui_lists.specs.ListStrokes.{content_layers, gutter_layers, gutter_of, item_layers, items_layers, list_layers, mark_layers, row_of, symbol_layers}
use Rattle.tui_lists.specs.Selection.{dress_stays, highlight_stays, is_at}
use Rattle.tui_lists.specs.declared.list.state.ListState.{ListState}
use Rattle.tui_text.specs.Line.{LineData}
use Rattle.tui_text.specs.declared.alignment.Alignment.TheVariants.{Left}
use Rattle.tui_text.proofs.RowStays.{row_stays, text_stays}

-- strokes that stay in some rows of an area stay in the area
pub in_rows : (area : Rect) (from count : ℕ) {ls : List Layer} → StayIn (covers (rows_from area from count)) ls → StayIn (covers area) ls
in_rows area from count s = StayIn-wider (λ x y out. rows_out area from count x y out) s

-- likewise for some columns
pub in_columns : (area : Rect) (from count : ℕ) {ls : List Layer} → StayIn (covers (columns_from area from count)) ls → StayIn (covers area) ls
in_columns area from count s = StayIn-wider (λ x y out. columns_out area from count x y out) s

symbol_stays : (symbol : Option LineData) (row : Rect) → StayIn (covers row) (symbol_layers symbol row)
symbol_stays None row = StayIn-none
symbol_stays (Some symbol) row = row_stays row (unwrap_or symbol.alignment Left) symbol

mark_stays : (l : ListData) (is_marked : Bool) (row : Rect) → StayIn (covers row) (mark_layers l is_marked row)
mark_stays l true row = symbol_stays l.symbol row
mark_stays l false row = StayIn-over (covers row) (write space ∷ set_style no_style ∷ [])

-- the symbols beside an item stay in their columns
pub gutter_stays : (l : ListData) (is_selected : Bool) (gutter : Rect) (j n : ℕ) → StayIn (covers gutter) (gutter_layers l is_selected gutter j n)
unfolding gutter_layers
gutter_stays l is_selected gutter j zero = StayIn-none
gutter_stays l is_selected gutter j (suc n) =
    StayIn-append (in_rows gutter j 1 (mark_stays l (is_selected && ((j == 0) || l.repeats)) (rows_from gutter j 1)))
    (gutter_stays l is_selected gutter (j + 1) n)

-- an item stays in its rows
pub item_stays : (l : ListData) (g : ℕ) (rows : Rect) (is_selected : Bool) (item : ListItemData) →
    StayIn (covers rows) (item_layers l g rows is_selected item)
unfolding item_layers
item_stays l g rows is_selected item =
    StayIn-append (dress_stays rows (patched l.style item.style))
    (StayIn-append (in_columns rows g rows.width (text_stays (columns_from rows g rows.width) item.content))
    (StayIn-append (highlight_stays rows l.highlight_style is_selected)
    (in_columns rows 0 g (gutter_stays l is_selected (columns_from rows 0 g) 0 rows.height))))

items_stay : (l : ListData) (inner : Rect) (selected : Option ℕ) (i used n : ℕ) (items : List ListItemData) →
    StayIn (covers inner) (items_layers l inner selected i used n items)
unfolding items_layers
items_stay l inner selected i used zero items = StayIn-none
items_stay l inner selected i used (suc n) [] = StayIn-none
items_stay l inner selected i used (suc n) (item ∷ items) =
    let height = min (item_height item) (inner.height - used) in
    let from = row_of l.direction inner.height used height in
    StayIn-append (in_rows inner from height (item_stays l (gutter_of l selected) (rows_from inner from height) (is_at selected i) item))
    (items_stay l inner selected (i + 1) (used + height) n items)

part_stays : (l : ListData) (inner : Rect) (s : ListState) (none : Bool) → StayIn (covers inner)
    (if none then [] else items_layers l inner (cut_selection (heights_of l.items) s.selected) (list_window l inner.height s).first 0
    (max ((list_window l inner.height s).end - (list_window l inner.height s).first) 1) (drop (list_window l inner.height s).first l.items))
part_stays l inner s true = StayIn-none
part_stays l inner s false =
    let w = list_window l inner.height s in
    items_stay l inner (cut_selection (heights_of l.items) s.selected) w.first 0 (max (w.end - w.first) 1) (drop w.first l.items)

-- what is inside the block stays there
pub content_stays : (l : ListData) (inner : Rect) (s : ListState) → StayIn (covers inner) (content_layers l inner s)
unfolding content_layers
content_stays l inner s = part_stays l inner s (length l.items == 0)

-- a list changes only cells of its footprint
pub list_stays : (l : ListData) (s : ListState) (clip : Rect) → StayIn (footprint_if l.block clip) (list_layers l s clip)
list_stays l s clip =
    StayIn-append (clip_stays l.block clip (dress_stays clip l.style))
    (StayIn-append (block_stays_if l.block clip) (inner_stays l.block clip (content_stays l (inner_of l.block clip) s)))
