-- The lines of a text that an iterator still gives, and what calls of it and of the iterators over its lines give.
use Rattle.std.specs.Iterator.{YieldsFirstBy}
use Rattle.std.specs.Prelude.{List, Option, map, drop}
use Rattle.tui_text.specs.Grapheme.{glyph_of}
use Rattle.tui_text.specs.Graphemes.{glyphs_left}
use Rattle.tui_text.specs.Line.{line_data}
use Rattle.tui_text.specs.declared.alignment.Alignment.{Alignment}
use Rattle.tui_text.specs.declared.grapheme.StyledGrapheme.{StyledGrapheme}
use Rattle.tui_text.specs.declared.graphemes.Graphemes.{Graphemes}
use Rattle.tui_para.specs.Lines.{GlyphLine, glyph_line}
use Rattle.tui_para.specs.WrappedText.{text_glyph_line}
use Rattle.tui_para.specs.declared.text_lines.TextLines.{TextLines}

-- the line that an iterator over graphemes and an alignment stand for
abbrev pub glyph_line_left : Graphemes × Alignment → GlyphLine
glyph_line_left x = glyph_line x.1 (glyphs_left x.0)

-- the lines that are still to be given
abbrev pub glyph_lines_left : TextLines → List GlyphLine
glyph_lines_left s = map (text_glyph_line s.style s.alignment) (map line_data (drop s.place s.lines.now))

-- a call of the iterator gives the first line that is left, if there is one
abbrev pub gives_lines : TextLines → Option (Graphemes × Alignment) → TextLines → Type 0
gives_lines = YieldsFirstBy glyph_line_left glyph_lines_left

-- a call of the iterator over a line gives the first grapheme that is left, if there is one
abbrev pub gives_graphemes : Graphemes → Option StyledGrapheme → Graphemes → Type 0
gives_graphemes = YieldsFirstBy glyph_of glyphs_left
