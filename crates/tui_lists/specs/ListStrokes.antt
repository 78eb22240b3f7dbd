-- The strokes of a list.
use Rattle.std.specs.Prelude.{
  ℕ,
  zero,
  suc,
  ◌+◌,
  ◌-◌,
  ◌==◌,
  ◌&&◌,
  ◌||◌,
  min,
  max,
  Bool,
  List,
  [],
  ◌∷◌,
  ◌++◌,
  drop,
  length,
  is_some,
  Option,
  None,
  Some,
  unwrap_or,
  false,
  if◌then◌else◌,
}
use Rattle.tui_cells.specs.declared.rect.Rect.{Rect}
use Rattle.tui_cells.specs.Cell.{set_style, write, space}
use Rattle.tui_cells.specs.Layers.{Layer, over, stroke}
use Rattle.tui_cells.specs.Rect.{columns_from, covers, rows_from, farthest_edge}
use Rattle.tui_cells.specs.Style.{no_style, patched}
use Rattle.tui_frames.specs.InBlock.{block_layers_if, inner_of}
use Rattle.tui_layout.specs.HighlightSpacing.{should_add}
use Rattle.tui_layout.specs.Window.{cut_selection}
use Rattle.tui_lists.specs.List.{ListData, list_window}
use Rattle.tui_lists.specs.ListItem.{ListItemData, heights_of, item_height}
use Rattle.tui_lists.specs.Selection.{is_at}
use Rattle.tui_lists.specs.declared.direction.ListDirection.{ListDirection}
use Rattle.tui_lists.specs.declared.direction.ListDirection.TheVariants.{TopToBottom, BottomToTop}
use Rattle.tui_lists.specs.declared.list.state.ListState.{ListState}
use Rattle.tui_text.specs.Line.{LineData}
use Rattle.tui_text.specs.Painting.{row_layers, text_layers}
use Rattle.tui_text.specs.Width.{line_width}
use Rattle.tui_text.specs.declared.alignment.Alignment.TheVariants.{Left}

-- the width of a symbol in columns, at most 65535
abbrev pub symbol_columns : Option LineData → ℕ
symbol_columns None = 0
symbol_columns (Some symbol) = min (line_width false symbol) farthest_edge

-- how many columns are reserved for the symbol
abbrev pub gutter_of : ListData → Option ℕ → ℕ
gutter_of l selected = if should_add l.spacing (is_some selected) then symbol_columns l.symbol else 0

-- a space in each cell of an area; setting the empty style changes nothing
abbrev pub blank_layers : Rect → List Layer
blank_layers area = over (covers area) (write space ∷ set_style no_style ∷ [])

-- the symbol in a row, by its own alignment or else at the left
abbrev pub symbol_layers : Option LineData → Rect → List Layer
symbol_layers None row = []
symbol_layers (Some symbol) row = row_layers row (unwrap_or symbol.alignment Left) symbol

-- the symbol in a marked row, spaces in any other
abbrev pub mark_layers : ListData → Bool → Rect → List Layer
mark_layers l is_marked row = if is_marked then symbol_layers l.symbol row else blank_layers row

-- n rows of the columns for the symbol, from row j on. The first row of the selected item, or each of its rows, has the
-- symbol. The others have spaces.
unfoldable pub gutter_layers : ListData → Bool → Rect → ℕ → ℕ → List Layer
gutter_layers l is_selected gutter j zero = []
gutter_layers l is_selected gutter j (suc n) =
    mark_layers l (is_selected && ((j == 0) || l.repeats)) (rows_from gutter j 1) ++ gutter_layers l is_selected gutter (j + 1) n

-- an item in its rows: the style, the text to the right of the first g columns, the highlight, and these columns
unfoldable pub item_layers : ListData → ℕ → Rect → Bool → ListItemData → List Layer
item_layers l g rows is_selected item =
    stroke (covers rows) (set_style (patched l.style item.style))
    ++ (text_layers (columns_from rows g rows.width) item.content
    ++ ((if is_selected then stroke (covers rows) (set_style l.highlight_style) else [])
    ++ gutter_layers l is_selected (columns_from rows 0 g) 0 rows.height))

-- the row of an item's first line, after `used` rows from the edge at which the items begin
abbrev pub row_of : ListDirection → ℕ → ℕ → ℕ → ℕ
row_of TopToBottom room used height = used
row_of BottomToTop room used height = room - used - height

-- n items from item i on, after `used` rows; an item has at most the rows that are left
unfoldable pub items_layers : ListData → Rect → Option ℕ → ℕ → ℕ → ℕ → List ListItemData → List Layer
items_layers l inner selected i used zero items = []
items_layers l inner selected i used (suc n) [] = []
items_layers l inner selected i used (suc n) (item ∷ items) =
    let height = min (item_height item) (inner.height - used) in
    item_layers l (gutter_of l selected) (rows_from inner (row_of l.direction inner.height used height) height) (is_at selected i) item
    ++ items_layers l inner selected (i + 1) (used + height) n items

-- the items of the window, or only the first one if it is taller than the area
unfoldable pub content_layers : ListData → Rect → ListState → List Layer
content_layers l inner s = if length l.items == 0 then [] else
    let w = list_window l inner.height s in
    items_layers l inner (cut_selection (heights_of l.items) s.selected) w.first 0 (max (w.end - w.first) 1) (drop w.first l.items)

-- the style, the block, and the items inside
abbrev pub list_layers : ListData → ListState → Rect → List Layer
list_layers l s clip = stroke (covers clip) (set_style l.style) ++ (block_layers_if l.block clip ++ content_layers l (inner_of l.block clip) s)
