-- The next line of a truncator.
use Rattle.std.proofs.Common.{◌≡◌, ◌<◌, Bool, true, false, List, [], ◌∷◌, ◌++◌, Some, None, map, refl, sym, ap, ◌∙◌, inl, ⊎_elim, subst}
use Rattle.std.proofs.lemmas.List.{append-nil}
use Rattle.std.specs.Iterator.{Drains}
use Rattle.tui_text.specs.Grapheme.{Glyph, glyph_of, glyph_width}
use Rattle.tui_text.specs.declared.alignment.Alignment.{Alignment}
use Rattle.tui_text.specs.declared.grapheme.StyledGrapheme.{StyledGrapheme}
use Rattle.std.specs.Prelude.{Option}
use Rattle.tui_para.specs.Answers.{both}
use Rattle.tui_para.specs.Given.{MayBe, MayGive, WillBe, WillGive, line_yields, source_yields}
use Rattle.tui_para.specs.Lines.{GlyphLine, glyph_line, is_left, LinesOfEach, IsTaken, IsTakenOf, PartsThenLines, lines_from, TruncatesLine}
use Rattle.tui_para.specs.Truncated.{truncate}
use Rattle.tui_para.specs.Wrapping.{truncator_input_yields, truncator_yields}
use Rattle.tui_para.specs.declared.truncator.LineTruncator.{LineTruncator}
use Rattle.tui_para.proofs.IteratorSteps.{Gave, Gave-beside, Gave-none, Gave-then, all_may, all_will, line_gave, will_stop}
use Rattle.tui_para.proofs.Yielding.{first_along, first_from, none_before, part_first, same_lists}
use Rattle.tui_para.proofs.TruncatedOnce.{truncated_first}

module _ {O I : Type 0} (outer : O → Option (I × Alignment) → O → Type 0) (inner : I → Option StyledGrapheme → I → Type 0) (s : LineTruncator O I) (some : 0 < s.width) where
  abbrev truncates : GlyphLine → List (List Glyph) → Type 0
  truncates = TruncatesLine s.width s.offset

  -- no text line is left
  pub none_left : (u : O) (later : Bool) → Gave (line_yields outer inner s.done s.lines) (λ ts. ts) (line_yields outer inner later u) → later ≡ true →
      IsTaken None (truncator_yields outer inner s) (lines_from (line_yields outer inner later u) (LinesOfEach truncates) s.width)
  none_left u later gave over =
      first_from (truncator_input_yields outer inner s) (line_yields outer inner later u) (λ ts. ts) gave (LinesOfEach truncates) (LinesOfEach truncates) s.width s.width some refl None
      (λ ts comes. subst (λ k. IsTakenOf None (LinesOfEach truncates k) (LinesOfEach truncates k)) (sym (⊎_elim (λ h. will_stop (MayGive outer (MayBe inner) u) later over ts h) (λ h. will_stop (WillGive outer (WillBe inner) u) later over ts h) comes))
      (record { yields = refl; takes = λ lines e. (e, refl) }))
      (λ e. ([], inl (over, refl)))

  -- a text line is truncated
  pub line_truncated : (u : O) (i : I) (a : Alignment) (all : List StyledGrapheme) (shown : List Glyph) → s.done ≡ false → outer s.lines (Some (i, a)) u → Drains inner i all → shown ≡ truncate glyph_width s.width (is_left a) s.offset (map glyph_of all) →
      IsTaken (Some (glyph_line a shown)) (truncator_yields outer inner s) (lines_from (line_yields outer inner s.done u) (LinesOfEach truncates) s.width)
  line_truncated u i a all shown going step drains shown_is =
      let texts = line_yields outer inner s.done s.lines in
      let rest = line_yields outer inner s.done u in
      let source = source_yields inner (Some i) in
      let glyphs = map glyph_of all ++ [] in
      let line = glyph_line a glyphs in
      let left = λ (parts : List (List Glyph)). parts ≡ [] in
      first_from texts rest (λ ts. line ∷ ts)
      (Gave-then texts (both source rest) rest (λ z. glyph_line a z.0 ∷ z.1) (λ ts. (glyphs, ts)) (line_gave outer inner s.lines u s.done going i a step)
      (Gave-beside source rest rest glyphs (λ ts. ts) (all_may inner (Some i) None all drains refl) (all_will inner (Some i) None all drains refl) (Gave-none rest)))
      (LinesOfEach truncates) (LinesOfEach truncates) s.width s.width some refl (Some (glyph_line a shown))
      (λ ts comes. first_along (Some (glyph_line a shown)) (LinesOfEach truncates (line ∷ ts)) (LinesOfEach truncates (line ∷ ts)) (PartsThenLines left a truncates ts) (LinesOfEach truncates ts) (same_lists (LinesOfEach truncates (line ∷ ts))) (none_before truncates left a (same_lists left) ts)
      (part_first truncates (truncates line) left a shown ts (truncated_first s.width s.offset line shown (shown_is ∙ ap (truncate glyph_width s.width (is_left a) s.offset) (sym (append-nil (map glyph_of all)))))))
      (λ e. cc)
