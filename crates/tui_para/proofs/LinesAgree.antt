-- If the certain lines are known, no other lines may come.
use Rattle.std.proofs.Common.{◌≡◌, ℕ, Bool, List, [], ◌∷◌, ◌++◌, Option, Some, None, map, refl, sym, ap, ◌∙◌, ⊎_elim, subst, arith}
use Rattle.std.proofs.lemmas.Bool.{false≢true}
use Rattle.tui_text.specs.Grapheme.{Glyph, glyph_width}
use Rattle.tui_text.specs.declared.alignment.Alignment.{Alignment}
use Rattle.tui_text.specs.declared.grapheme.StyledGrapheme.{StyledGrapheme}
use Rattle.tui_para.specs.declared.wrap.Wrap.{Wrap}
use Rattle.tui_para.specs.Answers.{Answers}
use Rattle.tui_para.specs.Given.{MayGive, WillGive, IsGlyph, MayBe, WillBe, SourceGives}
use Rattle.tui_para.specs.Lines.{GlyphLine, glyph_line, is_left, LinesFrom, TruncatesLine, GivenUnlessDone, WrapsLine}
use Rattle.tui_para.specs.Hyphens.{Unsplit, glyph_rule, unsplit, wrap}
use Rattle.tui_para.specs.Truncated.{truncate}
use Rattle.tui_para.specs.Wrapped.{IsUnique}
use Rattle.tui_para.specs.Wrapping.{LinesOfRest, TruncatorLines, TruncatorMayYield, TruncatorWillYield, WrapperLines, WrapperMayYield, WrapperWillYield, truncator_input_yields, wrapper_input_yields}
use Rattle.tui_para.specs.declared.truncator.LineTruncator.{LineTruncator}
use Rattle.tui_para.specs.declared.wrapper.WordWrapper.{WordWrapper}
use Rattle.tui_para.proofs.TextOnce.{each_once, truncates_only_to, wraps_only_to}
use Rattle.tui_para.proofs.Unique.{same_kept, same_lines}

module _ {S A B : Type 0} (gives : S → Option A → S → Type 0) (R T : A → B → Type 0) (agree : (x : A) (y z : B) → R x y → T x z → y ≡ z) where
  items_agree : (s : S) (ys zs : List B) → MayGive gives R s ys → WillGive gives T s zs → ys ≡ zs
  items_agree s [] [] m w = refl
  items_agree s [] (z ∷ zs) (t, g) w = absurd (w.0 t g)
  items_agree s (y ∷ ys) [] (x, t, g, r, m) w = absurd (w x t g)
  items_agree s (y ∷ ys) (z ∷ zs) (x, t, g, r, m) w =
      let on = w.1 x t g in
      ap (λ k. k ∷ ys) (agree x y z r on.0) ∙ ap (λ ks. z ∷ ks) (items_agree t ys zs m on.1)

module _ {O I : Type 0} (outer : O → Option (I × Alignment) → O → Type 0) (inner : I → Option StyledGrapheme → I → Type 0) where
  line_agrees : (x : I × Alignment) (t u : GlyphLine) → MayBe inner x t → WillBe inner x u → t ≡ u
  line_agrees x t u m w =
      let glyphs = items_agree inner IsGlyph IsGlyph (λ g y z e f. sym e ∙ f) x.0 t.glyphs u.glyphs m.0 w.0 in
      let alignment : t.alignment ≡ u.alignment = sym m.1 ∙ w.1 in
      ap (glyph_line t.alignment) glyphs ∙ ap (λ a. glyph_line a u.glyphs) alignment

  texts_agree : (done : Bool) (o : O) (ts us : List GlyphLine) → GivenUnlessDone done (MayGive outer (MayBe inner) o) ts → GivenUnlessDone done (WillGive outer (WillBe inner) o) us → ts ≡ us
  texts_agree done o ts us m w = ⊎_elim
      (λ a. ⊎_elim (λ b. a.1 ∙ sym b.1) (λ b. absurd (false≢true (sym b.0 ∙ a.0))) w)
      (λ a. ⊎_elim (λ b. absurd (false≢true (sym a.0 ∙ b.0))) (λ b. items_agree outer (MayBe inner) (WillBe inner) line_agrees o ts us a.1 b.1) w)
      m

-- the graphemes that a source may give are those that it is certain to give
source_agrees : {I : Type 0} (inner : I → Option StyledGrapheme → I → Type 0) (source : Option I) (glyphs others : List Glyph) → SourceGives (MayGive inner IsGlyph) source glyphs → SourceGives (WillGive inner IsGlyph) source others → glyphs ≡ others
source_agrees inner None glyphs others m w = m ∙ sym w
source_agrees inner (Some i) glyphs others m w = items_agree inner IsGlyph IsGlyph (λ g y z e f. sym e ∙ f) i glyphs others m w

rest_agrees : (is_new : Bool) (w : ℕ) (way : Wrap) (xs : List (Glyph × Bool)) (parts others : List (List (Glyph × Bool))) → LinesOfRest is_new w way xs parts → LinesOfRest is_new w way xs others → parts ≡ others
rest_agrees is_new w way xs parts others h g = ⊎_elim
    (λ a. ⊎_elim (λ b. same_kept (glyph_rule w way) xs parts others a.1 b.1) (λ b. absurd (false≢true (sym b.0 ∙ a.0))) g)
    (λ a. ⊎_elim (λ b. absurd (false≢true (sym a.0 ∙ b.0))) (λ b. same_lines (glyph_rule w way) parts others xs xs refl a.1 b.1) g)
    h

parts_agree : (is_new : Bool) (w : ℕ) (way : Wrap) (xs : List (Glyph × Bool)) (parts others : List (List Glyph)) → Unsplit (LinesOfRest is_new w way xs) parts → Unsplit (LinesOfRest is_new w way xs) others → parts ≡ others
parts_agree is_new w way xs parts others (split, h, e) (sliced, g, f) = e ∙ (ap unsplit (rest_agrees is_new w way xs split sliced h g) ∙ sym f)

-- Lines that may come are those that are certain to come. This holds if it holds for what the iterators give, and if
-- that has only one list of lines.
lines_agree : {X : Type 0} (k : Answers X) (lined : X → List GlyphLine → Type 0) → ((x y : X) → k.may x → k.will y → x ≡ y) → ((x : X) (lines others : List GlyphLine) → lined x lines → lined x others → lines ≡ others) →
    (w : ℕ) (lines others : List GlyphLine) → LinesFrom k.may lined w lines → LinesFrom k.will lined w others → lines ≡ others
lines_agree k lined agree once w lines others m v = ⊎_elim
    (λ z. ⊎_elim (λ y. z.1 ∙ sym y.1) (λ y. let e = z.0 in let l = y.0 in absurd (omega arith)) v)
    (λ (l, (x, may, each)). ⊎_elim
    (λ y. let n = y.0 in absurd (omega arith))
    (λ (p, (y, will, sliced)). once y lines others (subst (λ z. lined z lines) (agree x y may will) each) sliced)
    v)
    m

module _ {O I : Type 0} (outer : O → Option (I × Alignment) → O → Type 0) (inner : I → Option StyledGrapheme → I → Type 0) where
  pub wrapper_agrees : (s : WordWrapper O I) (lines known : List GlyphLine) → WrapperMayYield outer inner s lines → WrapperWillYield outer inner s known → lines ≡ known
  wrapper_agrees s = lines_agree (wrapper_input_yields outer inner s) (WrapperLines s)
      (λ x y may will. ap (λ k. (k, x.1)) (source_agrees inner s.current.source x.0 y.0 may.0 will.0) ∙ ap (λ k. (y.0, k)) (texts_agree outer inner s.done s.lines x.1 y.1 may.1 will.1))
      once s.current.width
    where
      once : (x : List Glyph × List GlyphLine) (lines others : List GlyphLine) → WrapperLines s x lines → WrapperLines s x others → lines ≡ others
      once x lines others (parts, p, (rest, each, e)) (pieces, q, (more, sliced, d)) =
          let w = s.current.width in
          let way = s.current.wrap in
          let only = each_once (WrapsLine w way) (λ t. wrap w way t.glyphs) (wraps_only_to w way) x.1 in
          e ∙ (ap (λ ps. map (glyph_line s.alignment) ps ++ rest) (parts_agree s.current.is_new w way _ parts pieces p q)
          ∙ (ap (λ ls. map (glyph_line s.alignment) pieces ++ ls) (only rest each ∙ sym (only more sliced)) ∙ sym d))

  pub truncator_agrees : (s : LineTruncator O I) (lines known : List GlyphLine) → TruncatorMayYield outer inner s lines → TruncatorWillYield outer inner s known → lines ≡ known
  truncator_agrees s = lines_agree (truncator_input_yields outer inner s) (TruncatorLines s) (texts_agree outer inner s.done s.lines)
      (λ ts lines others each sliced.
      let only = each_once (TruncatesLine s.width s.offset) (λ t. truncate glyph_width s.width (is_left t.alignment) s.offset t.glyphs ∷ []) (truncates_only_to s.width s.offset) ts in
      only lines each ∙ sym (only others sliced))
      s.width

-- if some list satisfies a predicate, and every such list is the known one, then exactly the known one does
pub the_known : (P : List GlyphLine → Type 0) (known : List GlyphLine) → ((lines : List GlyphLine) → P lines → lines ≡ known) → (lines : List GlyphLine) × P lines → IsUnique P known
the_known P known alone (lines, meets) = record { meets = subst P (alone lines meets) meets; alone = alone }
