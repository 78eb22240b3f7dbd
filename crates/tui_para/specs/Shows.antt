-- An area shows lines, cell by cell.
use Rattle.std.specs.Prelude.{◌≡◌, ℕ, ◌+◌, ◌-◌, List, [], ◌∷◌, true, ◌&&◌, ◌==◌, nat_lt, if◌then◌else◌, sum_by, Option, Some, None, option_map, slice_get}
use Rattle.tui_cells.specs.declared.rect.Rect.{Rect}
use Rattle.tui_cells.specs.Rect.{covers}
use Rattle.tui_cells.specs.Cell.{Look, restyled, symbol_of}
use Rattle.tui_cells.specs.Buffer.{Screen, cell_at}
use Rattle.tui_text.specs.Grapheme.{Glyph, glyph_width}
use Rattle.tui_para.specs.Lines.{GlyphLine}
use Rattle.tui_para.specs.Strokes.{start_of}

-- the grapheme that begins in column x, if the first one begins in `column`; a grapheme without a width is in no column
abbrev pub grapheme_in_column : ℕ → List Glyph → ℕ → Option Glyph
grapheme_in_column column [] x = None
grapheme_in_column column (g ∷ gs) x = if nat_lt 0 (glyph_width g) && (x == column) then Some g else grapheme_in_column (column + glyph_width g) gs x

-- a cell with the grapheme as its symbol and its style set, or the cell as it was
abbrev pub with_grapheme : Option Glyph → Look → Look
with_grapheme None c = c
with_grapheme (Some g) c = restyled g.style (record c { symbol = symbol_of g.text })

-- a cell of a row of the area, with the line of that row drawn over it if there is one
abbrev pub with_line : Rect → Option GlyphLine → ℕ → Look → Look
with_line rect None x c = c
with_line rect (Some s) x c = with_grapheme (grapheme_in_column (rect.x + start_of s.alignment rect.width (sum_by glyph_width s.glyphs)) s.glyphs x) c

-- each cell of the area is the base of the cell before, with the line of its row drawn over it: line r is in row r
pub record AreaShows (rect : Rect) (base : Look → Look) (lines : List GlyphLine) (before after : Screen) : Type 0 where
  pub area : after.area ≡ before.area
  pub cells : (x y : ℕ) → covers rect x y ≡ true →
      cell_at after x y ≡ option_map (λ c. with_line rect (slice_get lines (y - rect.y)) x (base c)) (cell_at before x y)
