-- Lines that are yielded one after another, whatever the iterators of a composer give.
use Rattle.std.proofs.Common.{◌≡◌, ◌<◌, ℕ, List, [], ◌∷◌, ◌++◌, Option, Some, None, map, refl, sym, ap, ◌∙◌, inl, inr, ⊎_elim, subst, arith}
use Rattle.std.proofs.lemmas.Bool.{cases_lt}
use Rattle.std.specs.Prelude.{◌↔◌, ◌⊎◌}
use Rattle.tui_text.specs.Grapheme.{Glyph}
use Rattle.tui_text.specs.declared.alignment.Alignment.{Alignment}
use Rattle.tui_para.specs.Answers.{Answers}
use Rattle.tui_para.specs.Lines.{GlyphLine, glyph_line, LinesOfEach, IsTaken, IsTakenOf, PartsThenLines, LinesFrom, lines_from}
use Rattle.tui_para.proofs.IteratorSteps.{Gave}

-- what holds for lists holds for the same lists
pub first_along : {A : Type 0} (first : Option A) (P P' Q Q' : List A → Type 0) → ((xs : List A) → P xs ↔ P' xs) → ((xs : List A) → Q xs ↔ Q' xs) → IsTakenOf first P Q → IsTakenOf first P' Q'
first_along None P P' Q Q' p q h = record {
  yields = (p []).0 h.yields;
  takes = λ xs k. let none = h.takes xs ((p xs).1 k) in (none.0, (q []).0 none.1);
}
first_along (Some x) P P' Q Q' p q h = record {
  yields = λ xs k. (p (x ∷ xs)).0 (h.yields xs ((q xs).1 k));
  takes = λ xs k. let on = h.takes xs ((p xs).1 k) in (on.0, on.1, (q on.0).0 on.2);
}

pub same_lists : {A : Type 0} (P : List A → Type 0) (xs : List A) → P xs ↔ P xs
same_lists P xs = (λ h. h, λ h. h)

module _ (R : GlyphLine → List (List Glyph) → Type 0) where
  -- if no part is left of the current text line
  pub none_before : (P : List (List Glyph) → Type 0) (a : Alignment) → ((parts : List (List Glyph)) → P parts ↔ (parts ≡ [])) → (ts lines : List GlyphLine) → PartsThenLines P a R ts lines ↔ LinesOfEach R ts lines
  none_before P a none ts lines = (
    λ (parts, p, (rest, each, e)). subst (LinesOfEach R ts) (sym (e ∙ ap (λ ps. map (glyph_line a) ps ++ rest) ((none parts).0 p))) each,
    λ each. ([], (none []).1 refl, (lines, each, refl)),
  )

  -- one more part of the current text line
  pub part_first : (P Q : List (List Glyph) → Type 0) (a : Alignment) (part : List Glyph) (ts : List GlyphLine) → IsTakenOf (Some part) P Q → IsTakenOf (Some (glyph_line a part)) (PartsThenLines P a R ts) (PartsThenLines Q a R ts)
  part_first P Q a part ts h = record {
    yields = λ lines (parts, q, (rest, each, e)). (part ∷ parts, h.yields parts q, (rest, each, ap (λ k. glyph_line a part ∷ k) e));
    takes = λ lines (parts, p, (rest, each, e)).
        let k = h.takes parts p in
        (map (glyph_line a) k.0 ++ rest, e ∙ ap (λ ps. map (glyph_line a) ps ++ rest) k.1, (k.0, k.2, (rest, each, refl)));
  }

  -- the end of the current text line, if no text line comes after it
  pub end_first : (P Q : List (List Glyph) → Type 0) (a b : Alignment) → IsTakenOf None P Q → IsTakenOf None (PartsThenLines P a R []) (PartsThenLines Q b R [])
  end_first P Q a b h = record {
    yields = ([], h.yields, ([], refl, refl));
    takes = λ lines (parts, p, (rest, each, e)). (let k = h.takes parts p in (e ∙ (ap (λ ps. map (glyph_line a) ps ++ rest) k.0 ∙ each), ([], k.1, ([], refl, refl))));
  }

-- A line is the first one whatever the iterators give later. Then it is the first of the lines that may come, and of
-- those that are certain to come.
module _ {X Y : Type 0} (k : Answers X) (l : Answers Y) (back : Y → X) (gave : Gave k back l) (lined : X → List GlyphLine → Type 0) (later : Y → List GlyphLine → Type 0) (w v : ℕ) (some : 0 < w) (same : v ≡ w) where
  some_later : 0 < v
  some_later = omega arith

  came : (lines : List GlyphLine) → LinesFrom k.will lined w lines → (y : Y) × l.will y × lined (back y) lines
  came lines h = ⊎_elim
      (λ z. let e = z.0 in absurd (omega arith))
      (λ (p, (x, will, each)). let (y, e, after) = gave.will x will in (y, after, subst (λ c. lined c lines) e each))
      h

  pub first_from : (first : Option GlyphLine) → ((y : Y) → (l.may y ⊎ l.will y) → IsTakenOf first (lined (back y)) (later y)) → (first ≡ None → (y : Y) × l.may y) → IsTaken first (lines_from k lined w) (lines_from l later v)
  first_from None is ends =
      let (y, may) = ends refl in
      record {
        yields = inr (some, (back y, gave.may y may, (is y (inl may)).yields));
        takes = λ lines h.
            let (u, after, each) = came lines h in
            let none = (is u (inr after)).takes lines each in
            (none.0, inr (some_later, (u, after, none.1)));
      }
  first_from (Some line) is ends = record {
    yields = λ lines h. ⊎_elim
        (λ z. let e = z.0 in absurd (omega arith))
        (λ (p, (y, may, each)). inr (some, (back y, gave.may y may, (is y (inl may)).yields lines each)))
        h;
    takes = λ lines h.
        let (u, after, each) = came lines h in
        let on = (is u (inr after)).takes lines each in
        (on.0, on.1, inr (some_later, (u, after, on.2)));
  }

pub positive : (n m : ℕ) → n ≡ m → (n ≡ 0 → ⊥) → 0 < m
positive n m e nonzero = ⊎_elim (λ l. l) (λ l. absurd (nonzero (omega arith))) (cases_lt 0 m)
