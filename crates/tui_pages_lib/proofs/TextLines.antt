-- The text lines at the start of a text have its first lines.
use Rattle.std.proofs.Common.{◌≡◌, ℕ, suc, ◌+◌, ◌==◌, ◌<◌, ◌≤◌, Bool, true, cond, List, [], ◌∷◌, ◌++◌, length, map, take, refl, sym, ap, ◌∙◌, arith, ⊎_elim}
use Rattle.std.specs.List.{flat_map, onto_first}
use Rattle.std.specs.Str.Lines.{lines, lines_of_parts, strip_carriage_return}
use Rattle.std.proofs.lemmas.Bool.{cases_Bool, cond-false, cond-true}
use Rattle.std.proofs.lemmas.Grind.{flat_map-append}
use Rattle.std.proofs.lemmas.List.{append_assoc, length-append, length-map, map-append, take-append-le}
use Rattle.tui_cells.specs.declared.style.Style.{Style}
use Rattle.tui_para.specs.Hyphens.{Wrapped, at_blanks, glyph_rule, with_splits, wrap}
use Rattle.tui_para.specs.Lines.{GlyphLine, glyph_line}
use Rattle.tui_para.specs.Wrapped.{WrapsKept, not_wider}
use Rattle.tui_para.specs.WrappedText.{text_glyph_line}
use Rattle.tui_para.specs.declared.wrap.Wrap.{Wrap}
use Rattle.tui_line_places.specs.AfterLine.{wrapped_lines}
use Rattle.tui_line_places.specs.Parts.{HaveSameLines}
use Rattle.tui_line_places.proofs.FirstPart.{lines_before, parts, some_lines, some_parts}
use Rattle.tui_pages_lib.specs.Shown.{AreTextLines, newlines}
use Rattle.tui_text.specs.Grapheme.{Glyph, glyph_width}
use Rattle.tui_text.specs.Line.{raw_line}
use Rattle.tui_text.specs.Text.{text_lines}
use Rattle.tui_text.specs.declared.alignment.Alignment.{Alignment}

-- the parts up to a newline, whatever is after it
record Split (front : List ℕ) : Type 0 where
  first : List ℕ
  others : List (List ℕ)
  many : length others ≡ length (newlines front)
  whole : (more : List ℕ) → parts (front ++ 10 ∷ more) ≡ first ∷ (others ++ parts more)

split_at : (front : List ℕ) → Split front
split_at [] = record { first = []; others = []; many = refl; whole = λ more. refl }
split_at (b ∷ front) =
    let s = split_at front in
    ⊎_elim
    (λ t. record {
      first = [];
      others = s.first ∷ s.others;
      many = ap suc s.many ∙ sym (ap length (cond-true _ (b ∷ newlines front) (newlines front) t));
      whole = λ more. ap (λ x. cond x ([] ∷ parts (front ++ 10 ∷ more)) (onto_first b (parts (front ++ 10 ∷ more)))) t ∙ ap (λ x. [] ∷ x) (s.whole more);
    })
    (λ t. record {
      first = b ∷ s.first;
      others = s.others;
      many = s.many ∙ sym (ap length (cond-false _ (b ∷ newlines front) (newlines front) t));
      whole = λ more. ap (λ x. cond x ([] ∷ parts (front ++ 10 ∷ more)) (onto_first b (parts (front ++ 10 ∷ more)))) t ∙ ap (onto_first b) (s.whole more);
    })
    (cases_Bool (b == 10))

-- the text lines up to a newline, whatever is after it
ended : List ℕ → List (List ℕ)
ended front = let s = split_at front in map strip_carriage_return (s.first ∷ s.others)

lines_are : (front more : List ℕ) → text_lines (front ++ 10 ∷ more) ≡ ended front ++ lines more
unfolding ended
lines_are front more =
    let s = split_at front in
    let (q, qs, e) = some_parts more in
    some_lines front more ∙ (ap lines_of_parts (s.whole more ∙ ap (λ x. s.first ∷ (s.others ++ x)) e) ∙ (lines_before s.first s.others q qs
    ∙ ap (λ x. ended front ++ lines_of_parts x) (sym e)))

many_ended : (front : List ℕ) → length (ended front) ≡ length (newlines front) + 1
unfolding ended
many_ended front =
    let s = split_at front in
    let many = s.many in
    let size = length-map (s.first ∷ s.others) strip_carriage_return in
    omega arith

newlines_ended : (front : List ℕ) → length (newlines (front ++ 10 ∷ [])) ≡ length (newlines front) + 1
newlines_ended [] = refl
newlines_ended (b ∷ front) =
    let rest = newlines_ended front in
    let at = front ++ 10 ∷ [] in
    ⊎_elim
    (λ t.
    let n = ap length (cond-true _ (b ∷ newlines at) (newlines at) t) in
    let m = ap length (cond-true _ (b ∷ newlines front) (newlines front) t) in
    omega arith)
    (λ t.
    let n = ap length (cond-false _ (b ∷ newlines at) (newlines at) t) in
    let m = ap length (cond-false _ (b ∷ newlines front) (newlines front) t) in
    omega arith)
    (cases_Bool (b == 10))

-- graphemes are wrapped into at least one line
pub some_line : (w : ℕ) (way : Wrap) (glyphs : List Glyph) (lines : List (List Glyph)) → Wrapped w way glyphs lines → 0 < length lines
some_line w way glyphs lines (split, wraps, e) =
    let n = by_case split wraps in
    let size = length-map split (map (λ p. p.0)) in
    omega (arith, ap length e)
  where
    by_case : (split : List (List (Glyph × Bool))) → WrapsKept (glyph_rule w way) (with_splits way.hyphens [] (not_wider glyph_width w glyphs)) split → 0 < length split
    by_case [] h = ⊎_elim (λ e. absurd (let l = ap length e.1 in omega arith)) (λ h. absurd (h.0 h.1)) h
    by_case (line ∷ split) h = omega arith

module _ (w : ℕ) (some : (glyphs : List Glyph) → 0 < length (wrap w (at_blanks true) glyphs)) (style : Style) (alignment : Alignment) where
  abbrev cut : GlyphLine → List GlyphLine
  cut t = map (glyph_line t.alignment) (wrap w (at_blanks true) t.glyphs)

  abbrev glyphs : List (List ℕ) → List GlyphLine
  glyphs ls = map (text_glyph_line style alignment) (map raw_line ls)

  abbrev wrapped : List (List ℕ) → List GlyphLine
  wrapped ls = flat_map cut (glyphs ls)

  wrapped-append : (xs ys : List (List ℕ)) → wrapped (xs ++ ys) ≡ wrapped xs ++ wrapped ys
  wrapped-append xs ys =
      ap (flat_map cut) (ap (map (text_glyph_line style alignment)) (map-append raw_line xs ys)
      ∙ map-append (text_glyph_line style alignment) (map raw_line xs) (map raw_line ys))
      ∙ flat_map-append cut (glyphs xs) (glyphs ys)

  no_fewer : (ls : List (List ℕ)) → length ls ≤ length (wrapped ls)
  no_fewer [] = omega arith
  no_fewer (l ∷ ls) =
      let t = text_glyph_line style alignment (raw_line l) in
      let here = some t.glyphs in
      let size = length-map (wrap w (at_blanks true) t.glyphs) (glyph_line t.alignment) in
      let both = length-append (cut t) (wrapped ls) in
      let rest = no_fewer ls in
      omega arith

  shown : (n : ℕ) (front more : List ℕ) → n ≤ length (ended front) →
      take n (wrapped_lines style alignment w true (front ++ 10 ∷ [])) ≡ take n (wrapped_lines style alignment w true (front ++ 10 ∷ more))
  shown n front more many =
      let fits = no_fewer (ended front) in
      let first = λ (remaining : List ℕ). ap (take n) (ap wrapped (lines_are front remaining) ∙ wrapped-append (ended front) (lines remaining))
      ∙ take-append-le n (wrapped (ended front)) (wrapped (lines remaining)) (omega arith) in
      first [] ∙ sym (first more)

pub text_lines_shown : (w n : ℕ) (text part more : List ℕ) → ((glyphs : List Glyph) → 0 < length (wrap w (at_blanks true) glyphs)) →
    text ≡ part ++ more → AreTextLines n part → HaveSameLines w true n text part
text_lines_shown w n text part more some whole are = by_end are.ended
  where
    by_end : (front : List ℕ) × (part ≡ front ++ 10 ∷ []) → HaveSameLines w true n text part
    by_end (front, e) = λ style alignment.
        let many = are.many in
        let size = ap (λ t. length (newlines t)) e ∙ (newlines_ended front ∙ sym (many_ended front)) in
        let is : text ≡ front ++ 10 ∷ more = whole ∙ (ap (λ t. t ++ more) e ∙ append_assoc front (10 ∷ []) more) in
        ap (λ t. take n (wrapped_lines style alignment w true t)) e
        ∙ (shown w some style alignment n front more (omega arith) ∙ ap (λ t. take n (wrapped_lines style alignment w true t)) (sym is))
