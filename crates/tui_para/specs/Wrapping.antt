-- What composers may still yield.
use Rattle.std.specs.Prelude.{◌≡◌, ◌≤◌, ◌⊎◌, ℕ, Bool, true, false, List, [], ◌++◌, length, drop, map, Option, Some, None, option_map, IfSome, sum_by}
use Rattle.std.specs.List.{between}
use Rattle.std.specs.declared.iter.Iterator.{Ghosts}
use Rattle.tui_text.specs.Grapheme.{Glyph, glyph_of, glyph_width}
use Rattle.tui_text.specs.declared.alignment.Alignment.{Alignment}
use Rattle.tui_text.specs.declared.grapheme.StyledGrapheme.{StyledGrapheme}
use Rattle.tui_para.specs.Answers.{Answers, both}
use Rattle.tui_para.specs.Given.{AllReady, Ready, SourceReads, line_yields, source_yields}
use Rattle.tui_para.specs.Lines.{GlyphLine, glyph_line, LinesOfEach, IsTaken, IsTakenOf, PartsThenLines, TruncatesLine, WrapsLine, lines_from}
use Rattle.tui_para.specs.Marked.{IsLineRange, splits_of, glyphs_of, part_of}
use Rattle.tui_para.specs.Hyphenation.{after_all, marked_from}
use Rattle.tui_para.specs.Hyphens.{Unsplit, glyph_rule}
use Rattle.tui_para.specs.Wrapped.{HasLines, WrapsKept, not_wider}
use Rattle.tui_para.specs.declared.wrap.Wrap.{Wrap}
use Rattle.tui_para.specs.declared.wrapping.breaking.LineBounds.{LineBounds}
use Rattle.tui_para.specs.declared.wrapping.part.LineRange.{LineRange}
use Rattle.tui_para.specs.declared.wrapping.text_line.TextLine.{TextLine}
use Rattle.tui_para.specs.declared.truncator.LineTruncator.{LineTruncator}
use Rattle.tui_para.specs.declared.wrapper.WordWrapper.{WordWrapper}

-- The graphemes of a text line from an index on, if `glyphs` are still to be read. Each comes with whether its word is
-- split before it.
abbrev pub glyphs_from : {I : Type 0} → TextLine I → ℕ → List Glyph → List (Glyph × Bool)
glyphs_from s place glyphs = drop place (splits_of s.line) ++ marked_from s.line.hyphenation (not_wider glyph_width s.width glyphs)

-- the lines of the graphemes that are left of a text line: at least one if none was yielded yet
abbrev pub LinesOfRest : Bool → ℕ → Wrap → List (Glyph × Bool) → List (List (Glyph × Bool)) → Type 0
LinesOfRest is_new w wrap glyphs parts = ((is_new ≡ true) × WrapsKept (glyph_rule w wrap) glyphs parts)
    ⊎ ((is_new ≡ false) × HasLines (glyph_rule w wrap) glyphs parts)

-- the parts that are not yielded yet, if `glyphs` are still to be read
abbrev pub SplitPartsWith : {I : Type 0} → TextLine I → List Glyph → List (List (Glyph × Bool)) → Type 0
SplitPartsWith s glyphs = LinesOfRest s.is_new s.width s.wrap (glyphs_from s s.place glyphs)

-- likewise, without the splits
abbrev pub PartsWith : {I : Type 0} → TextLine I → List Glyph → List (List Glyph) → Type 0
PartsWith s glyphs = Unsplit (SplitPartsWith s glyphs)

-- the first of these parts is the one at these bounds, and those after it begin at `next`
abbrev pub FirstLine : {I : Type 0} → TextLine I → LineBounds → List Glyph → Type 0
FirstLine s p glyphs = IsTakenOf (Some (between p.start p.end (splits_of s.line))) (SplitPartsWith s glyphs)
    (HasLines (glyph_rule s.width s.wrap) (glyphs_from s p.next glyphs))

-- these are the bounds of the first line, whatever is still to be read
pub record AreNextBounds {I : Type 0} (s : TextLine I) (p : LineBounds) : Type 0 where
  pub order : p.start ≤ p.end
  pub within : (p.end ≤ length (splits_of s.line)) × (p.next ≤ length (splits_of s.line))
  pub columns : p.width ≡ sum_by glyph_width (between p.start p.end (glyphs_of s.line))
  pub first : (glyphs : List Glyph) → (s.source ≡ None → glyphs ≡ []) → FirstLine s p glyphs

-- more of a text line was read, and no part of it was yielded
pub record HasRead {I : Type 0} (gives : I → Option StyledGrapheme → I → Type 0) (old new : TextLine I) : Type 0 where
  pub taken : List StyledGrapheme
  pub reads : SourceReads gives old.source taken new.source
  pub after : drop new.place (splits_of new.line)
      ≡ drop old.place (splits_of old.line) ++ marked_from old.line.hyphenation (not_wider glyph_width old.width (map glyph_of taken))
  pub goes_on : new.line.hyphenation ≡ after_all old.line.hyphenation (not_wider glyph_width old.width (map glyph_of taken))
  pub is_new : new.is_new ≡ old.is_new
  pub width : new.width ≡ old.width
  pub wrap : new.wrap ≡ old.wrap

-- A text line read some graphemes and found its next part, or that there is none. This part is the first of those that
-- are left, whatever is still to be read.
pub record FindsPart {I : Type 0} (gives : I → Option StyledGrapheme → I → Type 0) (old new : TextLine I) (found : Option LineRange) : Type 0 where
  pub is_part : IfSome found (IsLineRange (glyphs_of new.line))
  pub taken : List StyledGrapheme
  pub reads : SourceReads gives old.source taken new.source
  pub first : (glyphs : List Glyph) → (new.source ≡ None → glyphs ≡ []) →
      IsTakenOf (option_map (part_of (glyphs_of new.line)) found) (PartsWith old (map glyph_of taken ++ glyphs)) (PartsWith new glyphs)
  pub ends : found ≡ None → new.source ≡ None

-- the lines of a wrapper, given the graphemes and the text lines that its iterators still give
abbrev pub WrapperLines : {O I : Type 0} → WordWrapper O I → List Glyph × List GlyphLine → List GlyphLine → Type 0
WrapperLines s x = PartsThenLines (PartsWith s.current x.0) s.alignment (WrapsLine s.current.width s.current.wrap) x.1

-- the lines of a truncator, given the text lines that its iterator still gives
abbrev pub TruncatorLines : {O I : Type 0} → LineTruncator O I → List GlyphLine → List GlyphLine → Type 0
TruncatorLines s = LinesOfEach (TruncatesLine s.width s.offset)

module _ {O I : Type 0} (outer : O → Option (I × Alignment) → O → Type 0) (inner : I → Option StyledGrapheme → I → Type 0) where
  -- what the iterators of a wrapper or a truncator still give
  abbrev pub wrapper_input_yields : WordWrapper O I → Answers (List Glyph × List GlyphLine)
  wrapper_input_yields s = both (source_yields inner s.current.source) (line_yields outer inner s.done s.lines)

  abbrev pub truncator_input_yields : LineTruncator O I → Answers (List GlyphLine)
  truncator_input_yields s = line_yields outer inner s.done s.lines

  -- so these are the lines that they may yield, and those that they are certain to yield
  abbrev pub wrapper_yields : WordWrapper O I → Answers (List GlyphLine)
  wrapper_yields s = lines_from (wrapper_input_yields s) (WrapperLines s) s.current.width

  abbrev pub truncator_yields : LineTruncator O I → Answers (List GlyphLine)
  truncator_yields s = lines_from (truncator_input_yields s) (TruncatorLines s) s.width

  abbrev pub WrapperMayYield : WordWrapper O I → List GlyphLine → Type 0
  WrapperMayYield s = (wrapper_yields s).may

  abbrev pub WrapperWillYield : WordWrapper O I → List GlyphLine → Type 0
  WrapperWillYield s = (wrapper_yields s).will

  abbrev pub TruncatorMayYield : LineTruncator O I → List GlyphLine → Type 0
  TruncatorMayYield s = (truncator_yields s).may

  abbrev pub TruncatorWillYield : LineTruncator O I → List GlyphLine → Type 0
  TruncatorWillYield s = (truncator_yields s).will

  -- a wrapper found its next line, which is a part of the graphemes that it stores, or that there is none
  pub record FindsLine (old new : WordWrapper O I) (found : Option LineRange) : Type 0 where
    pub is_part : IfSome found (IsLineRange (glyphs_of new.current.line))
    pub first : IsTaken (option_map (λ p. glyph_line new.alignment (part_of (glyphs_of new.current.line) p)) found)
        (wrapper_yields old) (wrapper_yields new)

  -- a truncator found its next line, which is what it stores and is this many columns wide, or that there is none
  pub record FindsTruncated (old new : LineTruncator O I) (found : Option ℕ) : Type 0 where
    pub columns : IfSome found (λ n. n ≡ sum_by glyph_width (map glyph_of new.shown.items))
    pub first : IsTaken (option_map (λ _. glyph_line new.alignment (map glyph_of new.shown.items)) found)
        (truncator_yields old) (truncator_yields new)

-- the iterators of a composer may be called, and they end
module _ {O I : Type 0} (outer : Ghosts O (I × Alignment)) (inner : Ghosts I StyledGrapheme) where
  abbrev pub WrapperCanYield : WordWrapper O I → Type 0
  WrapperCanYield s = (s.done ≡ false → AllReady outer inner s.lines) × IfSome s.current.source (Ready inner)

  abbrev pub TruncatorCanYield : LineTruncator O I → Type 0
  TruncatorCanYield s = s.done ≡ false → AllReady outer inner s.lines
