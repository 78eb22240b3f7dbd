-- The strokes of a block.
use Rattle.std.specs.Prelude.{ℕ, ◌+◌, ◌-◌, ◌/◌, min, Bool, true, false, ◌&&◌, nat_le, nat_lt, List, [], ◌∷◌, ◌++◌, Option, None, Some, unwrap_or, if◌then◌else◌}
use Rattle.tui_cells.specs.declared.merge_strategy.MergeStrategy.{MergeStrategy}
use Rattle.tui_cells.specs.declared.merge_strategy.MergeStrategy.TheVariants.{Replace, Exact, Fuzzy}
use Rattle.tui_cells.specs.declared.rect.Rect.{Rect}
use Rattle.tui_cells.specs.Cell.{set_style, merge}
use Rattle.tui_cells.specs.Layers.{Layer, over, stroke}
use Rattle.tui_cells.specs.Rect.{bottom_of, columns_from, covers, intersection_of, right_of, rows_from}
use Rattle.tui_text.specs.Line.{LineData}
use Rattle.tui_text.specs.Painting.{cells_at, row_layers}
use Rattle.tui_text.specs.declared.alignment.Alignment.{Alignment}
use Rattle.tui_text.specs.declared.alignment.Alignment.TheVariants.{Left, Center, Right}
use Rattle.tui_frames.specs.Block.{BlockData}
use Rattle.tui_frames.specs.Borders.{bottom, has, left, right, top}
use Rattle.tui_frames.specs.Shadow.{ShadowData, shadow_layers}
use Rattle.tui_frames.specs.Space.{count, left_edge, right_edge}
use Rattle.tui_frames.specs.Titles.{spaced, title_width, titles_in, total}
use Rattle.tui_frames.specs.declared.block.title.TitlePlace.{TitlePlace}
use Rattle.tui_frames.specs.declared.title_position.TitlePosition.{TitlePosition}
use Rattle.tui_frames.specs.declared.title_position.TitlePosition.TheVariants.{Top, Bottom}

-- Borders

-- the last column of a clip
abbrev pub last_column : Rect → ℕ
last_column c = right_of c - 1

-- the last row of a clip
abbrev pub last_row : Rect → ℕ
last_row c = bottom_of c - 1

-- whether a strategy joins symbols
abbrev pub joins : MergeStrategy → Bool
joins Replace = false
joins Exact = true
joins Fuzzy = true

-- if symbols are joined, a side leaves its end cell to the corner if the border at that end is set
abbrev pub gap : BlockData → ℕ → ℕ
gap b side = count (joins b.strategy && has b.borders side)

-- a column and a row of a clip
abbrev pub column_of : Rect → ℕ → Rect
column_of c x = record c { x = x; width = 1 }

abbrev pub row_of : Rect → ℕ → Rect
row_of c y = record c { y = y; height = 1 }

-- the cells of a side in a column
abbrev pub column_side : BlockData → Rect → ℕ → Rect
column_side b c x = rows_from (column_of c x) (gap b top) (c.height - (gap b top + gap b bottom))

-- the cells of a side in a row
abbrev pub row_side : BlockData → Rect → ℕ → Rect
row_side b c y = columns_from (row_of c y) (gap b left) (c.width - (gap b left + gap b right))

-- in each cell of a part of the clip, if the border is set: the symbol is joined with the one that is there, and the
-- border style is set
abbrev pub border_layers : BlockData → Rect → Bool → Rect → List ℕ → List Layer
border_layers b c is_set part symbol =
    if is_set then over (covers (intersection_of c part)) (merge b.strategy symbol ∷ set_style b.border_style ∷ []) else []

-- the sides: left, top, right, bottom
unfoldable pub sides_layers : BlockData → Rect → List Layer
sides_layers b c =
    border_layers b c (has b.borders left) (column_side b c c.x) b.symbols.vertical_left
    ++ border_layers b c (has b.borders top) (row_side b c c.y) b.symbols.horizontal_top
    ++ border_layers b c (has b.borders right) (column_side b c (last_column c)) b.symbols.vertical_right
    ++ border_layers b c (has b.borders bottom) (row_side b c (last_row c)) b.symbols.horizontal_bottom

-- a corner whose two borders are set
abbrev pub corner_layers : BlockData → Rect → ℕ → ℕ → ℕ → ℕ → List ℕ → List Layer
corner_layers b c side other x y symbol = border_layers b c (has b.borders side && has b.borders other) (cells_at x y 1) symbol

-- the corners: first those at the bottom, and of each two the right one first
unfoldable pub corners_layers : BlockData → Rect → List Layer
corners_layers b c =
    corner_layers b c bottom right (last_column c) (last_row c) b.symbols.bottom_right
    ++ corner_layers b c top right (last_column c) c.y b.symbols.top_right
    ++ corner_layers b c bottom left c.x (last_row c) b.symbols.bottom_left
    ++ corner_layers b c top left c.x c.y b.symbols.top_left

-- Titles

-- the row of a side
abbrev pub row_at : Rect → TitlePosition → ℕ
row_at c Top = c.y
row_at c Bottom = last_row c

-- the part of that row for titles: without the columns of the left and right borders that are set
abbrev pub strip_of : BlockData → Rect → TitlePosition → Rect
strip_of b c position = columns_from (row_of c (row_at c position)) (left_edge b) (c.width - (left_edge b + right_edge b))

-- a title in a part of the clip: the title style, and then the line
abbrev pub title_layers : BlockData → Rect → Rect → Alignment → LineData → List Layer
title_layers b c part alignment t = stroke (covers (intersection_of c part)) (set_style b.title_style)
    ++ row_layers (intersection_of c part) alignment t

-- titles from a column of a strip on, one column apart, each as wide as it is or as there is room
unfoldable pub titles_from : BlockData → Rect → Rect → ℕ → List LineData → List Layer
titles_from b c strip column [] = []
titles_from b c strip column (t ∷ ts) =
    title_layers b c (columns_from strip column (title_width t)) (unwrap_or t.alignment Left) t
    ++ titles_from b c strip (column + title_width t + 1) ts

-- titles up to the end of a strip, likewise, the last one first
unfoldable pub titles_to_end : BlockData → Rect → Rect → List LineData → List Layer
titles_to_end b c strip [] = []
titles_to_end b c strip (t ∷ ts) =
    let end = strip.width - spaced ts in let width = min (title_width t) end in
    titles_to_end b c strip ts ++ title_layers b c (columns_from strip (end - width) width) (unwrap_or t.alignment Left) t

-- titles that are cut at both ends: one that begins before column `cut` loses as many columns as there are up to it,
-- and shows its end
unfoldable pub titles_cut : BlockData → Rect → Rect → ℕ → ℕ → List LineData → List Layer
titles_cut b c strip cut column [] = []
titles_cut b c strip cut column (t ∷ ts) =
    let width = min (title_width t) (strip.width - column) - (cut - column) in
    title_layers b c (columns_from strip column width) (if nat_lt column cut then Right else Left) t
    ++ titles_cut b c strip cut (column + width + 1) ts

-- titles in the middle: half of the free columns lie before them; if there are too few columns, half of the missing
-- ones are cut at the left
unfoldable pub titles_in_middle : BlockData → Rect → Rect → List LineData → List Layer
titles_in_middle b c strip ts =
    if nat_le (total ts) strip.width then titles_from b c strip ((strip.width - total ts) / 2) ts
    else titles_cut b c strip ((total ts - strip.width) / 2) 0 ts

-- a side, and an alignment on it
abbrev pub place_of : TitlePosition → Alignment → TitlePlace
place_of position alignment = record { position = position; alignment = alignment }

-- the titles of a side
unfoldable pub row_titles : BlockData → Rect → TitlePosition → List Layer
row_titles b c position =
    titles_from b c (strip_of b c position) 0 (titles_in b (place_of position Left) b.titles)
    ++ titles_in_middle b c (strip_of b c position) (titles_in b (place_of position Center) b.titles)
    ++ titles_to_end b c (strip_of b c position) (titles_in b (place_of position Right) b.titles)

-- The whole

-- a block without its shadow
abbrev pub frame_layers : BlockData → Rect → List Layer
frame_layers b c = stroke (covers c) (set_style b.style) ++ sides_layers b c ++ corners_layers b c ++ row_titles b c Top ++ row_titles b c Bottom

-- the shadow, if there is one
abbrev pub shadow_layers_if : Option ShadowData → Rect → List Layer
shadow_layers_if None c = []
shadow_layers_if (Some s) c = shadow_layers s c

-- a block with its shadow
abbrev pub block_layers : BlockData → Rect → List Layer
block_layers b c = frame_layers b c ++ shadow_layers_if b.shadow c
