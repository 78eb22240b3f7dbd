-- The next line of a wrapper, which is a part of the current text line or of the next one.
use Rattle.std.proofs.Common.{◌≡◌, ◌<◌, ℕ, Bool, true, false, List, [], ◌∷◌, ◌++◌, Option, Some, None, drop, map, refl, sym, ap, ◌∙◌, inl, inr, ⊎_elim, subst, arith}
use Rattle.std.proofs.lemmas.Bool.{false≢true}
use Rattle.std.proofs.lemmas.List.{drop_all}
use Rattle.std.specs.Prelude.{◌↔◌, ◌⊎◌, IfOk, Result, Ok, Err}
use Rattle.tui_text.specs.Grapheme.{Glyph, glyph_of, glyph_width}
use Rattle.tui_text.specs.declared.alignment.Alignment.{Alignment}
use Rattle.tui_text.specs.declared.grapheme.StyledGrapheme.{StyledGrapheme}
use Rattle.tui_para.specs.Hyphenation.{at_start, marked_from}
use Rattle.tui_para.specs.Hyphens.{glyph_rule, with_splits}
use Rattle.tui_para.specs.declared.wrap.Wrap.{Wrap}
use Rattle.tui_para.specs.Answers.{both}
use Rattle.tui_para.specs.Given.{IsGlyph, MayBe, MayGive, WillBe, WillGive, SourceGives, SourceReads, line_yields, source_yields}
use Rattle.tui_para.specs.Lines.{GlyphLine, glyph_line, LinesOfEach, IsTakenOf, PartsThenLines, LinesFrom, LinesOf, GivenUnlessDone, WrapsLine}
use Rattle.tui_para.specs.Marked.{splits_of, glyphs_of, part_of}
use Rattle.tui_para.specs.Wrapped.{WrapsKept, not_wider}
use Rattle.tui_para.specs.Wrapping.{FindsLine, FindsPart, PartsWith, WrapperLines, glyphs_from, wrapper_input_yields}
use Rattle.tui_para.specs.declared.wrapping.part.LineRange.{LineRange}
use Rattle.tui_para.specs.declared.wrapping.text_line.TextLine.{TextLine}
use Rattle.tui_para.specs.declared.wrapper.WordWrapper.{WordWrapper}
use Rattle.tui_para.proofs.IteratorSteps.{Gave, Gave-beside, Gave-both, Gave-none, Gave-then, all_may, all_will, line_gave, source_ended, source_gave, will_stop}
use Rattle.tui_para.proofs.Yielding.{end_first, first_along, first_from, none_before, part_first, same_lists}
use Rattle.tui_para.proofs.WithSplits.{marked_is, wraps_some}
use Rattle.tui_para.proofs.PartsRead.{no_parts}

pub if_ok : {A E : Type 0} (P Q : A → Type 0) (r : Result A E) → ((x : A) → P x → Q x) → IfOk r P → IfOk r Q
if_ok P Q (Ok x) f h = f x h
if_ok P Q (Err e) f h = h

-- what holds for a width and a `Wrap` holds for equal ones
at_size : (K : ℕ → Wrap → Type 0) (v w : ℕ) (s t : Wrap) → v ≡ w → s ≡ t → K w t → K v s
at_size K v w s t e f k = subst (λ b. K v b) (sym f) (subst (λ n. K n t) (sym e) k)

-- the lines of a text line that is still unread
module _ {I : Type 0} (s : TextLine I) (w : ℕ) (way : Wrap) (a : Alignment) (empty : splits_of s.line ≡ []) (start : s.line.hyphenation ≡ at_start s.wrap.hyphens) (new : s.is_new ≡ true) (width : s.width ≡ w) (ways : s.wrap ≡ way)
    (glyphs : List Glyph) where
  unread : glyphs_from s s.place glyphs ≡ with_splits s.wrap.hyphens [] (not_wider glyph_width s.width glyphs)
  unread =
      let left = marked_from s.line.hyphenation (not_wider glyph_width s.width glyphs) in
      ap (λ k. drop s.place k ++ left) empty ∙ (ap (λ k. k ++ left) (drop_all s.place [] (omega arith))
      ∙ (ap (λ b. marked_from b (not_wider glyph_width s.width glyphs)) start ∙ marked_is s.wrap.hyphens (not_wider glyph_width s.width glyphs)))

  abbrev Wraps : List (List (Glyph × Bool)) → ℕ → Wrap → Type 0
  Wraps parts n k = WrapsKept (glyph_rule n k) (with_splits k.hyphens [] (not_wider glyph_width n glyphs)) parts

  pub begun_wraps : (parts : List (List Glyph)) → PartsWith s glyphs parts ↔ WrapsLine w way (glyph_line a glyphs) parts
  begun_wraps parts = (
    λ (split, h, e). (
      split,
      ⊎_elim
          (λ t. subst (λ n. Wraps split n way) width (subst (λ k. Wraps split s.width k) ways (subst (λ gs. WrapsKept (glyph_rule s.width s.wrap) gs split) unread t.1)))
          (λ t. absurd (false≢true (sym t.0 ∙ new)))
          h,
      e,
    ),
    λ (split, h, e). (split, inl (new, subst (λ gs. WrapsKept (glyph_rule s.width s.wrap) gs split) (sym unread) (at_size (Wraps split) s.width w s.wrap way width ways h)), e),
  )

-- a source that has ended gives nothing
ended : {I : Type 0} (inner : I → Option StyledGrapheme → I → Type 0) (t : TextLine I) (glyphs : List Glyph) → ((source_yields inner t.source).may glyphs ⊎ (source_yields inner t.source).will glyphs) → t.source ≡ None → glyphs ≡ []
ended inner t glyphs h e = ⊎_elim (λ m. source_ended (MayGive inner IsGlyph) t.source glyphs m e) (λ w. source_ended (WillGive inner IsGlyph) t.source glyphs w e) h

module _ {O I : Type 0} (outer : O → Option (I × Alignment) → O → Type 0) (inner : I → Option StyledGrapheme → I → Type 0) (s : WordWrapper O I) (some : 0 < s.current.width) where
  abbrev wraps : GlyphLine → List (List Glyph) → Type 0
  wraps = WrapsLine s.current.width s.current.wrap

  -- the next part of the current text line
  module _ (t : TextLine I) (width : t.width ≡ s.current.width) (way : t.wrap ≡ s.current.wrap) where
    pub line_found : (part : LineRange) → FindsPart inner s.current t (Some part) → FindsLine outer inner s (record s { current = t }) (Some part)
    line_found part f =
        let n : WordWrapper O I = record s { current = t } in
        let shown = part_of (glyphs_of t.line) part in
        let texts = line_yields outer inner s.done s.lines in
        record {
          is_part = f.is_part;
          first = first_from (wrapper_input_yields outer inner s) (wrapper_input_yields outer inner n) (λ x. (map glyph_of f.taken ++ x.0, x.1))
              (Gave-both (source_yields inner s.current.source) texts (source_yields inner t.source) texts (λ glyphs. map glyph_of f.taken ++ glyphs) (λ ts. ts) (source_gave inner s.current.source t.source f.taken f.reads) (Gave-none texts))
              (WrapperLines s) (WrapperLines n) s.current.width t.width some width (Some (glyph_line s.alignment shown))
              (λ x comes. at_size (λ v b. IsTakenOf (Some (glyph_line s.alignment shown)) (WrapperLines s (map glyph_of f.taken ++ x.0, x.1)) (PartsThenLines (PartsWith t x.0) s.alignment (WrapsLine v b) x.1))
              t.width s.current.width t.wrap s.current.wrap width way
              (part_first wraps (PartsWith s.current (map glyph_of f.taken ++ x.0)) (PartsWith t x.0) s.alignment shown x.1 (f.first x.0 (ended inner t x.0 (⊎_elim (λ h. inl h.0) (λ h. inr h.0) comes)))))
              (λ e. cc);
        }

    -- no part is left of it, and no text line comes after it
    pub none_found : (u : O) (later : Bool) → FindsPart inner s.current t None → Gave (line_yields outer inner s.done s.lines) (λ ts. ts) (line_yields outer inner later u) → later ≡ true →
        FindsLine outer inner s (record s { lines = u; current = t; done = later }) None
    none_found u later f gave over =
        let n : WordWrapper O I = record s { lines = u; current = t; done = later } in
        let ends = f.ends refl in
        record {
          is_part = tt;
          first = first_from (wrapper_input_yields outer inner s) (wrapper_input_yields outer inner n) (λ x. (map glyph_of f.taken ++ x.0, x.1))
              (Gave-both (source_yields inner s.current.source) (line_yields outer inner s.done s.lines) (source_yields inner t.source) (line_yields outer inner later u) (λ glyphs. map glyph_of f.taken ++ glyphs) (λ ts. ts)
              (source_gave inner s.current.source t.source f.taken f.reads) gave)
              (WrapperLines s) (WrapperLines n) s.current.width t.width some width None
              (λ x comes. at_size (λ v b. IsTakenOf None (WrapperLines s (map glyph_of f.taken ++ x.0, x.1)) (PartsThenLines (PartsWith t x.0) s.alignment (WrapsLine v b) x.1))
              t.width s.current.width t.wrap s.current.wrap width way
              (subst (λ ts. IsTakenOf None (PartsThenLines (PartsWith s.current (map glyph_of f.taken ++ x.0)) s.alignment wraps ts) (PartsThenLines (PartsWith t x.0) s.alignment wraps ts)) (sym (⊎_elim (λ h. will_stop (MayGive outer (MayBe inner) u) later over x.1 h.1) (λ h. will_stop (WillGive outer (WillBe inner) u) later over x.1 h.1) comes))
              (end_first wraps (PartsWith s.current (map glyph_of f.taken ++ x.0)) (PartsWith t x.0) s.alignment s.alignment (f.first x.0 (ended inner t x.0 (⊎_elim (λ h. inl h.0) (λ h. inr h.0) comes))))))
              (λ e. (([], []), (subst (λ o. (source_yields inner o).may []) (sym ends) refl, inl (over, refl))));
        }

  -- the first part of the next text line, where the one before has ended
  module _ (t b n : TextLine I) (u : O) (i : I) (a : Alignment) (over : FindsPart inner s.current t None) (source : b.source ≡ Some i) (empty : splits_of b.line ≡ []) (start : b.line.hyphenation ≡ at_start b.wrap.hyphens) (new : b.is_new ≡ true)
      (b_width : b.width ≡ s.current.width) (b_trim : b.wrap ≡ s.current.wrap) (width : n.width ≡ s.current.width) (way : n.wrap ≡ s.current.wrap) (going : s.done ≡ false) (step : outer s.lines (Some (i, a)) u) where
    abbrev before : List Glyph
    before = map glyph_of over.taken ++ []

    none_left : (parts : List (List Glyph)) → PartsWith s.current before parts ↔ (parts ≡ [])
    none_left parts = let h = over.first [] (λ e. refl) in (λ p. (h.takes parts p).0, λ e. subst (PartsWith s.current before) (sym e) h.yields)

    begun : (glyphs : List Glyph) (parts : List (List Glyph)) → PartsWith b glyphs parts ↔ wraps (glyph_line a glyphs) parts
    begun = begun_wraps b s.current.width s.current.wrap a empty start new b_width b_trim

    pub line_begun : (found : Option LineRange) → FindsPart inner b n found → FindsLine outer inner s (record s { lines = u; current = n; alignment = a }) found
    line_begun None f = absurd (wraps_some s.current.width s.current.wrap _ ((begun (map glyph_of f.taken ++ []) []).0 (f.first [] (λ e. refl)).yields))
    line_begun (Some part) f =
        let m : WordWrapper O I = record s { lines = u; current = n; alignment = a } in
        let shown = part_of (glyphs_of n.line) part in
        let reads = subst (λ o. SourceReads inner o f.taken n.source) source f.reads in
        let line : List Glyph → GlyphLine = λ glyphs. glyph_line a (map glyph_of f.taken ++ glyphs) in
        let now = source_yields inner s.current.source in
        let later = source_yields inner n.source in
        let texts = line_yields outer inner s.done s.lines in
        let rest = line_yields outer inner s.done u in
        record {
          is_part = f.is_part;
          first = first_from (wrapper_input_yields outer inner s) (wrapper_input_yields outer inner m) (λ x. (before, line x.0 ∷ x.1))
              (Gave-beside now texts (both later rest) before (λ x. line x.0 ∷ x.1) (all_may inner s.current.source t.source over.taken over.reads (over.ends refl)) (all_will inner s.current.source t.source over.taken over.reads (over.ends refl))
              (Gave-then texts (both (source_yields inner (Some i)) rest) (both later rest) (λ z. glyph_line a z.0 ∷ z.1) (λ x. (map glyph_of f.taken ++ x.0, x.1)) (line_gave outer inner s.lines u s.done going i a step)
              (Gave-both (source_yields inner (Some i)) rest later rest (λ glyphs. map glyph_of f.taken ++ glyphs) (λ ts. ts) (source_gave inner (Some i) n.source f.taken reads) (Gave-none rest))))
              (WrapperLines s) (WrapperLines m) s.current.width n.width some width (Some (glyph_line a shown))
              (λ x comes. at_size (λ v d. IsTakenOf (Some (glyph_line a shown)) (WrapperLines s (before, line x.0 ∷ x.1)) (PartsThenLines (PartsWith n x.0) a (WrapsLine v d) x.1))
              n.width s.current.width n.wrap s.current.wrap width way
              (first_along (Some (glyph_line a shown)) (LinesOfEach wraps (line x.0 ∷ x.1)) (WrapperLines s (before, line x.0 ∷ x.1)) (PartsThenLines (PartsWith n x.0) a wraps x.1) (PartsThenLines (PartsWith n x.0) a wraps x.1)
              (λ lines. let e = none_before wraps (PartsWith s.current before) s.alignment none_left (line x.0 ∷ x.1) lines in (e.1, e.0)) (same_lists (PartsThenLines (PartsWith n x.0) a wraps x.1))
              (part_first wraps (wraps (line x.0)) (PartsWith n x.0) a shown x.1
              (first_along (Some shown) (PartsWith b (map glyph_of f.taken ++ x.0)) (wraps (line x.0)) (PartsWith n x.0) (PartsWith n x.0) (begun (map glyph_of f.taken ++ x.0)) (same_lists (PartsWith n x.0))
              (f.first x.0 (ended inner n x.0 (⊎_elim (λ h. inl h.0) (λ h. inr h.0) comes)))))))
              (λ e. cc);
        }

-- a wrapper that was just created
pub fresh_wrapper : {I : Type 0} (s : TextLine I) (G : I → List Glyph → Type 0) (T : List GlyphLine → Type 0) (a : Alignment) (w : ℕ) (way : Wrap) → s.source ≡ None → s.is_new ≡ false → splits_of s.line ≡ [] → s.width ≡ w → s.wrap ≡ way → (lines : List GlyphLine) →
    LinesFrom (λ (x : List Glyph × List GlyphLine). SourceGives G s.source x.0 × GivenUnlessDone false T x.1) (λ x. PartsThenLines (PartsWith s x.0) a (WrapsLine s.width s.wrap) x.1) s.width lines ↔ LinesOf T (WrapsLine w way) w lines
fresh_wrapper s G T a w way source old empty width trims lines =
    at_size (λ v b. LinesFrom (λ (x : List Glyph × List GlyphLine). SourceGives G s.source x.0 × GivenUnlessDone false T x.1) (λ x. PartsThenLines (PartsWith s x.0) a (WrapsLine v b) x.1) v lines ↔ LinesOf T (WrapsLine w way) w lines)
    s.width w s.wrap way width trims (
      λ h. ⊎_elim
          (λ z. inl z)
          (λ (some, (x, (gives, t), each)). inr (some, (x.1, ⊎_elim (λ z. absurd (false≢true z.0)) (λ z. z.1) t, (none x.0 (source_ended G s.source x.0 gives source) x.1).0 each)))
          h,
      λ h. ⊎_elim (λ z. inl z) (λ (some, (ts, t, each)). inr (some, (([], ts), (subst (λ o. SourceGives G o []) (sym source) refl, inr (refl, t)), (none [] refl ts).1 each))) h,
    )
  where
    none : (glyphs : List Glyph) → glyphs ≡ [] → (ts : List GlyphLine) → PartsThenLines (PartsWith s glyphs) a (WrapsLine w way) ts lines ↔ LinesOfEach (WrapsLine w way) ts lines
    none glyphs e ts = none_before (WrapsLine w way) (PartsWith s glyphs) a (no_parts s old empty glyphs e) ts lines
