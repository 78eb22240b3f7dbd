-- A text has one list of lines.
use Rattle.std.proofs.Common.{◌≡◌, ℕ, List, [], ◌∷◌, ◌++◌, map, drop, Some, None, Option, refl, sym, ap, ◌∙◌}
use Rattle.std.proofs.lemmas.List.{drop-map}
use Rattle.std.specs.Iterator.{YieldsFirstBy}
use Rattle.std.specs.Option.{option_map_or}
use Rattle.std.specs.Prelude.{MatchOption, OnOk, Result, Ok, Err}
use Rattle.tui_text.specs.Grapheme.{Glyph, glyph_of, glyph_width}
use Rattle.tui_text.specs.Graphemes.{glyphs_left}
use Rattle.tui_text.specs.Text.{TextData}
use Rattle.tui_text.specs.declared.alignment.Alignment.{Alignment}
use Rattle.tui_text.specs.declared.graphemes.Graphemes.{Graphemes}
use Rattle.tui_para.specs.Given.{WillGive, WillBe, IsGlyph}
use Rattle.tui_para.specs.Lines.{GlyphLine, glyph_line, is_left, LinesOfEach, lines_of_each, WrapsLine, TruncatesLine}
use Rattle.tui_para.specs.Paragraph.{ParagraphData}
use Rattle.tui_para.specs.Hyphens.{wrap}
use Rattle.tui_para.specs.Rendering.{ParagraphLines, paragraph_lines}
use Rattle.tui_para.specs.TextLines.{glyph_line_left, glyph_lines_left}
use Rattle.tui_para.specs.Truncated.{truncate}
use Rattle.tui_para.specs.Wrapped.{IsUnique}
use Rattle.tui_para.specs.WrappedText.{WrappedText, TruncatedText, wrap_text, truncate_text, text_glyph_lines}
use Rattle.tui_para.specs.declared.text_lines.TextLines.{TextLines}
use Rattle.tui_para.specs.declared.wrap.Wrap.{Wrap}
use Rattle.tui_para.proofs.WithSplits.{wrap_is, wraps_only}
use Rattle.tui_para.proofs.Filled.{no_cons}
use Rattle.tui_para.proofs.TruncatedOnce.{truncate_is, truncates_once}

module _ (R : GlyphLine → List (List Glyph) → Type 0) (f : GlyphLine → List (List Glyph)) where
  pub each_is : ((t : GlyphLine) → R t (f t)) → (ts : List GlyphLine) → LinesOfEach R ts (lines_of_each f ts)
  each_is is [] = refl
  each_is is (t ∷ ts) = (f t, is t, (lines_of_each f ts, each_is is ts, refl))

  pub each_once : ((t : GlyphLine) (parts : List (List Glyph)) → R t parts → parts ≡ f t) → (ts lines : List GlyphLine) → LinesOfEach R ts lines → lines ≡ lines_of_each f ts
  each_once one [] lines h = h
  each_once one (t ∷ ts) lines (parts, r, (rest, each, e)) =
      e ∙ (ap (λ ps. map (glyph_line t.alignment) ps ++ rest) (one t parts r) ∙ ap (λ ls. map (glyph_line t.alignment) (f t) ++ ls) (each_once one ts rest each))

pub wraps_to : (w : ℕ) (way : Wrap) (t : GlyphLine) → WrapsLine w way t (wrap w way t.glyphs)
wraps_to w way t = wrap_is w way t.glyphs

pub wraps_only_to : (w : ℕ) (way : Wrap) (t : GlyphLine) (parts : List (List Glyph)) → WrapsLine w way t parts → parts ≡ wrap w way t.glyphs
wraps_only_to w way t parts h = wraps_only w way t.glyphs parts h

pub truncates_to : (w offset : ℕ) (t : GlyphLine) → TruncatesLine w offset t (truncate glyph_width w (is_left t.alignment) offset t.glyphs ∷ [])
truncates_to w offset t = (truncate glyph_width w (is_left t.alignment) offset t.glyphs, truncate_is glyph_width w (is_left t.alignment) offset t.glyphs, refl)

pub truncates_only_to : (w offset : ℕ) (t : GlyphLine) (parts : List (List Glyph)) → TruncatesLine w offset t parts → parts ≡ truncate glyph_width w (is_left t.alignment) offset t.glyphs ∷ []
truncates_only_to w offset t parts (line, h, e) = e ∙ ap (λ k. k ∷ []) ((truncates_once glyph_width w (is_left t.alignment) offset t.glyphs).alone line h)

-- text lines that have one line each, with the first ones dropped
one_each : (f : GlyphLine → List Glyph) (ts : List GlyphLine) → lines_of_each (λ t. f t ∷ []) ts ≡ map (λ t. glyph_line t.alignment (f t)) ts
one_each f [] = refl
one_each f (t ∷ ts) = ap (λ ls. glyph_line t.alignment (f t) ∷ ls) (one_each f ts)

pub one_each-drop : (f : GlyphLine → List Glyph) (n : ℕ) (ts : List GlyphLine) → lines_of_each (λ t. f t ∷ []) (drop n ts) ≡ drop n (lines_of_each (λ t. f t ∷ []) ts)
one_each-drop f n ts = one_each f (drop n ts) ∙ (sym (drop-map (λ t. glyph_line t.alignment (f t)) n ts) ∙ sym (ap (drop n) (one_each f ts)))

-- exactly one list of lines
pub text_wraps_once : (w : ℕ) (way : Wrap) (a : Alignment) (text : TextData) → IsUnique (WrappedText w way a text) (wrap_text w way a text)
text_wraps_once w way a text = record {
  meets = each_is (WrapsLine w way) (λ t. wrap w way t.glyphs) (wraps_to w way) (text_glyph_lines text a);
  alone = λ lines h. each_once (WrapsLine w way) (λ t. wrap w way t.glyphs) (wraps_only_to w way) (text_glyph_lines text a) lines h;
}

pub text_truncates_once : (w offset : ℕ) (a : Alignment) (text : TextData) → IsUnique (TruncatedText w offset a text) (truncate_text w offset a text)
text_truncates_once w offset a text = record {
  meets = each_is (TruncatesLine w offset) (λ t. truncate glyph_width w (is_left t.alignment) offset t.glyphs ∷ []) (truncates_to w offset) (text_glyph_lines text a);
  alone = λ lines h. each_once (TruncatesLine w offset) (λ t. truncate glyph_width w (is_left t.alignment) offset t.glyphs ∷ []) (truncates_only_to w offset) (text_glyph_lines text a) lines h;
}

-- an iterator is certain to give the items that are left, if these are known
will_give : {S A B : Type 0} (view : A → B) (rest : S → List B) (R : A → B → Type 0) → ((x : A) (y : B) → view x ≡ y → R x y) → (s : S) (ys : List B) → rest s ≡ ys →
    WillGive (YieldsFirstBy view rest) R s ys
will_give view rest R sees s [] e = λ x t g. no_cons (view x) (rest t) (sym e ∙ g)
will_give view rest R sees s (y ∷ ys) e = (
  λ t g. no_cons y ys (sym g.0 ∙ e),
  λ x t g. (let whole : view x ∷ rest t ≡ y ∷ ys = sym g ∙ e in
      let first : view x ≡ y = cc in
      let later : rest t ≡ ys = cc in
      (sees x y first, will_give view rest R sees t ys later)),
)

pub glyphs_will : (s : Graphemes) (glyphs : List Glyph) → glyphs_left s ≡ glyphs → WillGive (YieldsFirstBy glyph_of glyphs_left) IsGlyph s glyphs
glyphs_will s glyphs e = will_give glyph_of glyphs_left IsGlyph (λ x y f. f) s glyphs e

pub glyph_lines_will : (s : TextLines) (ts : List GlyphLine) → glyph_lines_left s ≡ ts → WillGive (YieldsFirstBy glyph_line_left glyph_lines_left) (WillBe (YieldsFirstBy glyph_of glyphs_left)) s ts
glyph_lines_will s ts e = will_give glyph_line_left glyph_lines_left (WillBe (YieldsFirstBy glyph_of glyphs_left))
    (λ x t f. (glyphs_will x.0 t.glyphs (ap (λ (k : GlyphLine). k.glyphs) f), ap (λ (k : GlyphLine). k.alignment) f)) s ts e

-- the lines of a paragraph are those that the function returns
pub lines_are : (p : ParagraphData) (w : ℕ) → ParagraphLines p w (paragraph_lines p w)
lines_are p w = by_wrap p.wrap
  where
    by_wrap : (o : Option Wrap) → MatchOption o (TruncatedText w p.scroll_x p.alignment p.text (option_map_or (λ (wrap : Wrap). wrap_text w wrap p.alignment p.text) o (truncate_text w p.scroll_x p.alignment p.text)))
        (λ wrap. WrappedText w wrap p.alignment p.text (option_map_or (λ (wrap : Wrap). wrap_text w wrap p.alignment p.text) o (truncate_text w p.scroll_x p.alignment p.text)))
    by_wrap None = (text_truncates_once w p.scroll_x p.alignment p.text).meets
    by_wrap (Some wrap) = (text_wraps_once w wrap p.alignment p.text).meets

-- a consequence for a call that returned Ok
pub on_ok : {T E : Type 0} {P Q : Type 0} (r : Result T E) → (P → Q) → OnOk r P → OnOk r Q
on_ok (Ok x) f h = f h
on_ok (Err e) f h = h
