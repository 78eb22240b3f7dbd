-- The lines of a text.
use Rattle.std.specs.Prelude.{ℕ, All, List, [], ◌∷◌, map, unwrap_or}
use Rattle.tui_cells.specs.declared.style.Style.{Style}
use Rattle.tui_para.specs.Division.{SpacedWithin}
use Rattle.tui_para.specs.Lines.{GlyphLine, glyph_line, is_left, LinesOfEach, lines_of_each, WrapsLine, TruncatesLine}
use Rattle.tui_para.specs.Hyphens.{wrap}
use Rattle.tui_para.specs.Truncated.{truncate}
use Rattle.tui_para.specs.declared.wrap.Wrap.{Wrap}
use Rattle.tui_text.specs.Grapheme.{Glyph, glyph_blank, glyph_width}
use Rattle.tui_text.specs.Graphemes.{line_graphemes}
use Rattle.tui_text.specs.Line.{LineData}
use Rattle.tui_text.specs.Text.{TextData}
use Rattle.tui_text.specs.declared.alignment.Alignment.{Alignment}

-- a text line over the text's style, in its own alignment or else the given one
abbrev pub text_glyph_line : Style → Alignment → LineData → GlyphLine
text_glyph_line style alignment line = glyph_line (unwrap_or line.alignment alignment) (line_graphemes style line)

-- the lines of a text as graphemes
abbrev pub text_glyph_lines : TextData → Alignment → List GlyphLine
text_glyph_lines text alignment = map (text_glyph_line text.style alignment) text.lines

-- the text is wrapped into these lines: those of each text line, in order
abbrev pub WrappedText : ℕ → Wrap → Alignment → TextData → List GlyphLine → Type 0
WrappedText w wrap alignment text lines = LinesOfEach (WrapsLine w wrap) (text_glyph_lines text alignment) lines

-- the text is not wrapped, and has these lines: one for each text line
abbrev pub TruncatedText : ℕ → ℕ → Alignment → TextData → List GlyphLine → Type 0
TruncatedText w offset alignment text lines = LinesOfEach (TruncatesLine w offset) (text_glyph_lines text alignment) lines

-- the wrapped lines as a function
abbrev pub wrap_text : ℕ → Wrap → Alignment → TextData → List GlyphLine
wrap_text w way alignment text = lines_of_each (λ t. wrap w way t.glyphs) (text_glyph_lines text alignment)

-- the lines of a text that is not wrapped, each truncated at the width
abbrev pub truncate_text : ℕ → ℕ → Alignment → TextData → List GlyphLine
truncate_text w offset alignment text =
    lines_of_each (λ t. truncate glyph_width w (is_left t.alignment) offset t.glyphs ∷ []) (text_glyph_lines text alignment)

-- each line of the text is the words given for it, with single whitespace graphemes of width 1 between them; no word is
-- wider than w
abbrev pub IsTextOf : (LineData → List (List Glyph)) → ℕ → TextData → Type 0
IsTextOf words w text = All (λ line. SpacedWithin glyph_blank glyph_width w (words line) (line_graphemes text.style line)) text.lines
