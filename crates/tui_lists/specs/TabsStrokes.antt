-- The strokes of tabs; at the end, the law that they stay in their footprint. If no column is left, nothing more is
-- set, since no text is set outside the area.
use Rattle.std.specs.Prelude.{ℕ, ◌+◌, ◌-◌, ◌==◌, Bool, true, false, List, [], ◌∷◌, ◌++◌, if◌then◌else◌}
use Rattle.tui_cells.specs.declared.position.Position.{Position}
use Rattle.tui_cells.specs.declared.rect.Rect.{Rect}
use Rattle.tui_cells.specs.declared.style.Style.{Style}
use Rattle.tui_cells.specs.Cell.{set_style}
use Rattle.tui_cells.specs.Layers.{Layer, StayIn, stroke}
use Rattle.tui_cells.specs.Rect.{covers, intersection_of}
use Rattle.tui_cells.specs.Stays.{StayIn-append, StayIn-none}
use Rattle.tui_cells.proofs.Regions.{StayIn-wider, outside_both}
use Rattle.tui_frames.specs.Footprint.{footprint_if}
use Rattle.tui_frames.specs.InBlock.{block_layers_if, inner_of}
use Rattle.tui_frames.specs.InBlockStays.{block_stays_if, clip_stays, inner_stays}
use Rattle.tui_lists.specs.Selection.{dress_stays, highlight_stays, is_at}
use Rattle.tui_lists.specs.Tabs.{TabsData}
use Rattle.tui_text.specs.Line.{LineData}
use Rattle.tui_text.specs.Painting.{cells_at}
use Rattle.tui_text.specs.Setting.{line_spans, set_column, set_layers}
use Rattle.tui_text.proofs.SetStays.{set_stays}

-- a column of the first row
abbrev pub in_first_row : Rect → ℕ → Position
in_first_row inner x = record { x = x; y = inner.y }

-- the columns `start..end` of the first row
abbrev pub used_columns : Rect → ℕ → ℕ → Rect
used_columns inner start end = intersection_of inner (cells_at start inner.y (end - start))

-- the column where a title begins if its left padding begins at column x
abbrev pub title_start : TabsData → Rect → ℕ → ℕ
title_start t inner x = set_column inner (in_first_row inner x) (line_spans t.padding_left) inner.width

-- the column after the title
abbrev pub title_end : TabsData → Rect → ℕ → LineData → ℕ
title_end t inner x title = set_column inner (in_first_row inner (title_start t inner x)) (line_spans title) inner.width

-- the column after the padding at its right
unfoldable pub tab_end : TabsData → Rect → ℕ → LineData → ℕ
tab_end t inner x title = set_column inner (in_first_row inner (title_end t inner x title)) (line_spans t.padding_right) inner.width

-- the left padding, the title, the highlight on the title's columns, and the right padding
unfoldable pub tab_layers : TabsData → Rect → ℕ → Bool → LineData → List Layer
tab_layers t inner x is_selected title =
    let start = title_start t inner x in
    let end = title_end t inner x title in
    set_layers inner (in_first_row inner x) (line_spans t.padding_left) inner.width
    ++ (set_layers inner (in_first_row inner start) (line_spans title) inner.width
    ++ ((if is_selected then stroke (covers (used_columns inner start end)) (set_style t.highlight_style) else [])
    ++ set_layers inner (in_first_row inner end) (line_spans t.padding_right) inner.width))

-- the divider before title i; the first title has none
unfoldable pub divider_layers : TabsData → Rect → ℕ → ℕ → List Layer
divider_layers t inner x i = if i == 0 then [] else set_layers inner (in_first_row inner x) (t.divider ∷ []) inner.width

-- the column after the divider before title i
unfoldable pub divider_end : TabsData → Rect → ℕ → ℕ → ℕ
divider_end t inner x i = if i == 0 then x else set_column inner (in_first_row inner x) (t.divider ∷ []) inner.width

-- the titles from title i on, beginning at column x
unfoldable pub titles_layers : TabsData → Rect → ℕ → ℕ → List LineData → List Layer
titles_layers t inner i x [] = []
titles_layers t inner i x (title ∷ titles) =
    let start = divider_end t inner x i in
    divider_layers t inner x i
    ++ (tab_layers t inner start (is_at t.selected i) title ++ titles_layers t inner (i + 1) (tab_end t inner start title) titles)

-- the style, the block, and the titles in the first row inside
abbrev pub tabs_layers : TabsData → Rect → List Layer
tabs_layers t clip =
    let inner = inner_of t.block clip in
    stroke (covers clip) (set_style t.style) ++ (block_layers_if t.block clip ++ titles_layers t inner 0 inner.x t.titles)

used_stays : (inner : Rect) (start end : ℕ) (style : Style) (is_selected : Bool) →
    StayIn (covers inner) (if is_selected then stroke (covers (used_columns inner start end)) (set_style style) else [])
used_stays inner start end style is_selected =
    StayIn-wider
    (λ x y out. outside_both inner (cells_at start inner.y (end - start)) x y out)
    (highlight_stays (used_columns inner start end) style is_selected)

-- a tab stays in the area
pub tab_stays : (t : TabsData) (inner : Rect) (x : ℕ) (is_selected : Bool) (title : LineData) →
    StayIn (covers inner) (tab_layers t inner x is_selected title)
unfolding tab_layers
tab_stays t inner x is_selected title =
    let start = title_start t inner x in
    let end = title_end t inner x title in
    StayIn-append (set_stays inner (in_first_row inner x) (line_spans t.padding_left) inner.width)
    (StayIn-append (set_stays inner (in_first_row inner start) (line_spans title) inner.width)
    (StayIn-append (used_stays inner start end t.highlight_style is_selected)
    (set_stays inner (in_first_row inner end) (line_spans t.padding_right) inner.width)))

between_stays : (t : TabsData) (inner : Rect) (x : ℕ) (is_first : Bool) →
    StayIn (covers inner) (if is_first then [] else set_layers inner (in_first_row inner x) (t.divider ∷ []) inner.width)
between_stays t inner x true = StayIn-none
between_stays t inner x false = set_stays inner (in_first_row inner x) (t.divider ∷ []) inner.width

divider_stays : (t : TabsData) (inner : Rect) (x i : ℕ) → StayIn (covers inner) (divider_layers t inner x i)
unfolding divider_layers
divider_stays t inner x i = between_stays t inner x (i == 0)

-- so do all of them
pub titles_stay : (t : TabsData) (inner : Rect) (i x : ℕ) (titles : List LineData) → StayIn (covers inner) (titles_layers t inner i x titles)
unfolding titles_layers
titles_stay t inner i x [] = StayIn-none
titles_stay t inner i x (title ∷ titles) =
    let start = divider_end t inner x i in
    StayIn-append (divider_stays t inner x i)
    (StayIn-append (tab_stays t inner start (is_at t.selected i) title) (titles_stay t inner (i + 1) (tab_end t inner start title) titles))

-- tabs change only cells of their footprint
pub tabs_stay : (t : TabsData) (clip : Rect) → StayIn (footprint_if t.block clip) (tabs_layers t clip)
tabs_stay t clip =
    let inner = inner_of t.block clip in
    StayIn-append (clip_stays t.block clip (dress_stays clip t.style))
    (StayIn-append (block_stays_if t.block clip) (inner_stays t.block clip (titles_stay t inner 0 inner.x t.titles)))
