-- The strokes of a line in one row.
use Rattle.std.specs.Prelude.{
  ℕ,
  ◌+◌,
  ◌-◌,
  ◌/◌,
  min,
  Bool,
  false,
  ◌&&◌,
  ◌||◌,
  ◌==◌,
  nat_le,
  nat_lt,
  List,
  [],
  ◌∷◌,
  ◌++◌,
  Option,
  None,
  Some,
  unwrap_or,
  flat_map,
  if◌then◌else◌,
}
use Rattle.std.specs.Option.{option_map_or, option_or}
use Rattle.tui_cells.specs.declared.rect.Rect.{Rect}
use Rattle.tui_cells.specs.Cell.{set_style, write, wipe}
use Rattle.tui_cells.specs.Layers.{Layer, at_place, stroke}
use Rattle.tui_cells.specs.Rect.{covers, is_empty, farthest_edge}
use Rattle.tui_cells.specs.Style.{no_style}
use Rattle.tui_text.specs.Grapheme.{Glyph, glyph_width}
use Rattle.tui_text.specs.Graphemes.{span_graphemes}
use Rattle.tui_text.specs.Line.{LineData}
use Rattle.tui_text.specs.Text.{TextData}
use Rattle.tui_clusters.specs.Width.{saturated}
use Rattle.tui_text.specs.Width.{line_width}
use Rattle.tui_text.specs.declared.alignment.Alignment.{Alignment}
use Rattle.tui_text.specs.declared.alignment.Alignment.TheVariants.{Left, Center, Right}

-- cells of a row from a column on
abbrev pub cells_at : ℕ → ℕ → ℕ → Rect
cells_at x y width = record { x = x; y = y; width = width; height = 1 }

-- the first row of an area
abbrev pub first_row : Rect → Rect
first_row area = cells_at area.x area.y area.width

-- the cells of the first row of an area, none if the area is empty
abbrev pub row_part : Rect → ℕ → ℕ → Bool
row_part area x y = covers area x y && (y == area.y)

-- the cells that a line painted in an area may change: those of the area's first row, and none if the line has no
-- columns
unfoldable pub line_part : Rect → LineData → ℕ → ℕ → Bool
line_part area line x y = nat_lt 0 (line_width false line) && row_part area x y

-- a grapheme from a column on: its symbol, its style, and the cells after the first one of a wide grapheme made blank
abbrev pub glyph_at : ℕ → ℕ → Glyph → List Layer
glyph_at x y g =
    stroke (at_place x y) (write g.text)
    ++ (stroke (covers (cells_at x y 1)) (set_style g.style)
    ++ stroke (covers (cells_at (x + 1) y (glyph_width g - 1))) wipe)

-- the column of the row for a place, which is counted from `skip` columns before the row, if a width above 0 lies whole
-- inside the row from there on
abbrev pub column_at : Rect → ℕ → ℕ → ℕ → Option ℕ
column_at row skip place width =
    let x = row.x + (place - skip) in
    if nat_lt 0 width && (nat_le skip place && (covers row x row.y && covers row (x + (width - 1)) row.y)) then Some x else None

-- a grapheme at a place, if it lies whole inside the row
abbrev pub shown_glyph : Rect → ℕ → ℕ → Glyph → List Layer
shown_glyph row skip place g = option_map_or (λ x. glyph_at x row.y g) (column_at row skip place (glyph_width g)) []

-- graphemes side by side from a place on, each that lies whole inside the row
unfoldable pub shown_glyphs : Rect → ℕ → ℕ → List Glyph → List Layer
shown_glyphs row skip place [] = []
shown_glyphs row skip place (g ∷ gs) = shown_glyph row skip place g ++ shown_glyphs row skip (place + glyph_width g) gs

-- the graphemes of a line, in their spans' own styles
abbrev pub line_glyphs : LineData → List Glyph
line_glyphs line = flat_map (span_graphemes no_style) line.spans

-- how much of the free space, `room` minus `width`, lies before what is aligned; 0 if there is no free space
abbrev pub alignment_offset : Alignment → ℕ → ℕ → ℕ
alignment_offset Left room width = 0
alignment_offset Center room width = (room - width) / 2
alignment_offset Right room width = room - width

-- a line in the first row of an area: the line's style on the row, then the graphemes. A line that fits is indented. A
-- wider one loses columns at its left in the same way.
unfoldable pub row_layers : Rect → Alignment → LineData → List Layer
row_layers row alignment line =
    let width = saturated (line_width false line) in
    if is_empty row || (width == 0) then []
    else stroke (covers (first_row row)) (set_style line.style)
    ++ shown_glyphs row (alignment_offset alignment width row.width) (alignment_offset alignment row.width width) (line_glyphs line)

-- the rest of an area below its first row
abbrev pub below : Rect → Rect
below area = record { x = area.x; y = min (area.y + 1) farthest_edge; width = area.width; height = area.height - 1 }

-- a line's own alignment, else the text's, else Left
abbrev pub alignment_in : Option Alignment → LineData → Alignment
alignment_in given line = unwrap_or (option_or line.alignment given) Left

-- lines in an area, one a row from its first row on
unfoldable pub lines_layers : Rect → Option Alignment → List LineData → List Layer
lines_layers area given [] = []
lines_layers area given (l ∷ ls) = row_layers area (alignment_in given l) l ++ lines_layers (below area) given ls

-- a text in an area: its style on the area, then its lines
abbrev pub text_layers : Rect → TextData → List Layer
text_layers area text = stroke (covers area) (set_style text.style) ++ lines_layers area text.alignment text.lines
