-- What composers over the lines of a text are certain to yield.
use Rattle.std.proofs.Common.{Bool, true, false, List, [], Option, Some, None, refl, inl, inr}
use Rattle.tui_text.specs.Grapheme.{Glyph}
use Rattle.tui_text.specs.Graphemes.{glyphs_left}
use Rattle.tui_text.specs.declared.graphemes.Graphemes.{Graphemes}
use Rattle.tui_para.specs.Given.{IsGlyph, SourceGives, WillBe, WillGive}
use Rattle.tui_para.specs.Lines.{GlyphLine, GivenUnlessDone}
use Rattle.tui_para.specs.TextLines.{gives_graphemes, gives_lines, glyph_lines_left}
use Rattle.tui_para.specs.Wrapping.{TruncatorLines, TruncatorWillYield, WrapperLines, WrapperWillYield, truncator_input_yields, wrapper_input_yields}
use Rattle.tui_para.specs.declared.text_lines.TextLines.{TextLines}
use Rattle.tui_para.specs.declared.truncator.LineTruncator.{LineTruncator}
use Rattle.tui_para.specs.declared.wrapper.WordWrapper.{WordWrapper}
use Rattle.tui_para.proofs.LinesExist.{lines_exist, truncator_lines, wrapper_lines}
use Rattle.tui_para.proofs.TextOnce.{glyphs_will, glyph_lines_will}

source_known : (source : Option Graphemes) → (glyphs : List Glyph) × SourceGives (WillGive gives_graphemes IsGlyph) source glyphs
source_known None = ([], refl)
source_known (Some s) = (glyphs_left s, glyphs_will s (glyphs_left s) refl)

texts_known : (done : Bool) (s : TextLines) → (ts : List GlyphLine) × GivenUnlessDone done (WillGive gives_lines (WillBe gives_graphemes) s) ts
texts_known true s = ([], inl (refl, refl))
texts_known false s = (glyph_lines_left s, inr (refl, glyph_lines_will s (glyph_lines_left s) refl))

pub wrapper_known : (s : WordWrapper TextLines Graphemes) → (lines : List GlyphLine) × WrapperWillYield gives_lines gives_graphemes s lines
wrapper_known s =
    let (glyphs, source) = source_known s.current.source in
    let (ts, texts) = texts_known s.done s.lines in
    lines_exist (wrapper_input_yields gives_lines gives_graphemes s).will (WrapperLines s) (wrapper_lines s) ((glyphs, ts), (source, texts)) s.current.width

pub truncator_known : (s : LineTruncator TextLines Graphemes) → (lines : List GlyphLine) × TruncatorWillYield gives_lines gives_graphemes s lines
truncator_known s = lines_exist (truncator_input_yields gives_lines gives_graphemes s).will (TruncatorLines s) (truncator_lines s) (texts_known s.done s.lines) s.width
