-- The strokes of lines.
use Rattle.std.specs.Prelude.{ℕ, ◌+◌, ◌-◌, ◌/◌, List, [], ◌∷◌, ◌++◌, ◌&&◌, nat_lt, if◌then◌else◌, sum_by}
use Rattle.tui_cells.specs.declared.rect.Rect.{Rect}
use Rattle.tui_cells.specs.declared.style.Style.{Style}
use Rattle.tui_cells.specs.Rect.{covers}
use Rattle.tui_cells.specs.Cell.{write, set_style}
use Rattle.tui_cells.specs.Layers.{Layer, stroke, at_place}
use Rattle.tui_text.specs.Grapheme.{Glyph, glyph_width}
use Rattle.tui_text.specs.declared.alignment.Alignment.{Alignment}
use Rattle.tui_text.specs.declared.alignment.Alignment.TheVariants.{Left, Center, Right}
use Rattle.tui_para.specs.Lines.{GlyphLine}

-- a grapheme at a position of the clip, if its width is above 0: its symbol is written, and its style is set
abbrev pub glyph_layers : Rect → ℕ → ℕ → Glyph → List Layer
glyph_layers clip x y g =
    if nat_lt 0 (glyph_width g) && covers clip x y
    then stroke (at_place x y) (write g.text) ++ stroke (at_place x y) (set_style g.style)
    else []

-- a grapheme of one byte
abbrev pub byte_glyph : Style → ℕ → Glyph
byte_glyph style b = record { text = b ∷ []; style = style }

-- graphemes side by side
unfoldable pub run_layers : Rect → ℕ → ℕ → List Glyph → List Layer
run_layers clip x y [] = []
run_layers clip x y (g ∷ gs) = glyph_layers clip x y g ++ run_layers clip (x + glyph_width g) y gs

-- the column in which a line starts
abbrev pub start_of : Alignment → ℕ → ℕ → ℕ
start_of Left room width = 0
start_of Center room width = room / 2 - width / 2
start_of Right room width = room - width

-- a line in a row
unfoldable pub glyph_line_layers : Rect → ℕ → GlyphLine → List Layer
glyph_line_layers rect y s = run_layers rect (rect.x + start_of s.alignment rect.width (sum_by glyph_width s.glyphs)) y s.glyphs

-- lines one below the other
abbrev pub glyph_lines_layers : Rect → ℕ → List GlyphLine → List Layer
glyph_lines_layers rect y [] = []
glyph_lines_layers rect y (s ∷ ss) = glyph_line_layers rect y s ++ glyph_lines_layers rect (y + 1) ss
