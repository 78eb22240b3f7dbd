-- The lines from some line on are the lines of what is left there.
use Rattle.std.proofs.Common.{◌≡◌, ℕ, zero, suc, ◌-◌, ◌<◌, ◌≤◌, List, [], ◌∷◌, ◌++◌, length, map, take, drop, Bool, refl, sym, ap, ◌∙◌, subst, arith, inr, ⊎_elim}
use Rattle.std.specs.Prelude.{◌≢◌, ◌&&◌, nat_le, sum_by}
use Rattle.std.proofs.lemmas.Bool.{cond-true, le-leb}
use Rattle.std.proofs.lemmas.List.{append_assoc, drop-map, length-drop, length-map, take-map}
use Rattle.tui_text.specs.Grapheme.{Glyph, glyph_blank, glyph_width}
use Rattle.tui_para.specs.Hyphens.{Wrapped, glyph_rule, is_split, unsplit, with_splits}
use Rattle.tui_para.specs.LinesLeft.{GoesOnAfter, reversed_onto}
use Rattle.tui_para.specs.Rule.{Rule}
use Rattle.tui_para.specs.Wrapped.{HasLines, LeavesOutBlanks, WrapsKept, not_wider}
use Rattle.tui_para.specs.declared.wrap.Wrap.{Wrap}
use Rattle.tui_para.proofs.Filled.{no_cons}
use Rattle.tui_para.proofs.Greedy.{AllFit, all_fit-kept}
use Rattle.tui_para.proofs.LeftOut.{before_line, blanks_after_break}
use Rattle.tui_para.proofs.WithSplits.{glyph_part, glyphs-with_splits, left_out}
use Rattle.tui_para.proofs.WithoutSplits.{no_splits}

-- the graphemes of the first lines, and those of the others
record FrontAndRest {A : Type 0} (rule : Rule A) (Left : List A → List (List A) → Type 0) (xs : List A) (lines : List (List A)) (k : ℕ) : Type 0 where
  front : List A
  rest : List A
  whole : xs ≡ front ++ rest
  before : LeavesOutBlanks rule.blank front (take k lines)
  after : Left rest (drop k lines)

lines_after : {A : Type 0} (rule : Rule A) (k : ℕ) (xs : List A) (lines : List (List A)) → k ≤ length lines → HasLines rule xs lines → FrontAndRest rule (HasLines rule) xs lines k
lines_after rule zero xs lines l h = record { front = []; rest = xs; whole = refl; before = refl; after = h }
lines_after rule (suc k) xs [] l h = absurd (omega arith)
lines_after rule (suc k) xs (line ∷ lines) l (some, rest, next, more) =
    let s = lines_after rule k rest lines (omega arith) more in
    let before = before_line rule rule.trim xs in
    let after = blanks_after_break rule (rule.width - sum_by rule.size line) next.after in
    let inner : next.after ≡ (after.blanks ++ s.front) ++ s.rest =
    after.whole ∙ (ap (λ t. after.blanks ++ t) (sym next.rest_is ∙ s.whole) ∙ sym (append_assoc after.blanks s.front s.rest)) in
    let middle : line ++ next.after ≡ (line ++ (after.blanks ++ s.front)) ++ s.rest = ap (λ t. line ++ t) inner ∙ sym (append_assoc line (after.blanks ++ s.front) s.rest) in
    record {
      front = before.blanks ++ (line ++ (after.blanks ++ s.front));
      rest = s.rest;
      whole = before.whole ∙ (ap (λ t. before.blanks ++ t) (next.joined ∙ middle) ∙ sym (append_assoc before.blanks (line ++ (after.blanks ++ s.front)) s.rest));
      before = (before.blanks, after.blanks, s.front, before.all, after.all, refl, s.before);
      after = s.after;
    }

has_some : {A : Type 0} (rule : Rule A) (xs : List A) (lines : List (List A)) → HasLines rule xs lines → 0 < length lines → xs ≢ []
has_some rule xs [] h l = absurd (omega arith)
has_some rule xs (line ∷ lines) h l = h.0

kept_after : {A : Type 0} (rule : Rule A) (k : ℕ) (xs : List A) (lines : List (List A)) → k < length lines → WrapsKept rule xs lines → FrontAndRest rule (WrapsKept rule) xs lines k
kept_after rule zero xs lines l h = record { front = []; rest = xs; whole = refl; before = refl; after = h }
kept_after rule (suc k) xs lines l h = ⊎_elim
    (λ e. absurd (let one = ap length e.1 in omega arith))
    (λ e. let s = lines_after rule (suc k) xs lines (omega arith) e.1 in
    let long = length-drop (suc k) lines in
    record { front = s.front; rest = s.rest; whole = s.whole; before = s.before; after = inr (has_some rule s.rest (drop (suc k) lines) s.after (omega arith), s.after) })
    h

-- graphemes with their splits, in two parts
record SplitsAfter (hyphens : Bool) (before gs : List Glyph) (xs ys : List (Glyph × Bool)) : Type 0 where
  front : List Glyph
  rest : List Glyph
  whole : gs ≡ front ++ rest
  front_is : xs ≡ with_splits hyphens before front
  rest_is : ys ≡ with_splits hyphens (reversed_onto front before) rest

splits_after : (hyphens : Bool) (before gs : List Glyph) (xs ys : List (Glyph × Bool)) → with_splits hyphens before gs ≡ xs ++ ys → SplitsAfter hyphens before gs xs ys
splits_after hyphens before gs [] ys e = record { front = []; rest = gs; whole = refl; front_is = refl; rest_is = sym e }
splits_after hyphens before [] (x ∷ xs) ys e = absurd (no_cons x (xs ++ ys) e)
splits_after hyphens before (g ∷ gs) (x ∷ xs) ys e =
    let first : x ≡ (g, hyphens && is_split before g) = cc in
    let later : with_splits hyphens (g ∷ before) gs ≡ xs ++ ys = cc in
    let s = splits_after hyphens (g ∷ before) gs xs ys later in
    record {
      front = g ∷ s.front;
      rest = s.rest;
      whole = ap (λ t. g ∷ t) s.whole;
      front_is = ap (λ k. k ∷ xs) first ∙ ap (λ t. (g, hyphens && is_split before g) ∷ t) s.front_is;
      rest_is = s.rest_is;
    }

-- graphemes that fit are kept
fit_kept : (w : ℕ) (gs : List Glyph) → AllFit glyph_width w gs → not_wider glyph_width w gs ≡ gs
fit_kept w [] h = refl
fit_kept w (g ∷ gs) h = cond-true (nat_le (glyph_width g) w) (g ∷ not_wider glyph_width w gs) (not_wider glyph_width w gs) (le-leb (glyph_width g) w h.0) ∙ ap (λ t. g ∷ t) (fit_kept w gs h.1)

fit_rest : (w : ℕ) (front rest : List Glyph) → AllFit glyph_width w (front ++ rest) → AllFit glyph_width w rest
fit_rest w [] rest h = h
fit_rest w (g ∷ front) rest h = fit_rest w front rest h.1

pub goes_on_after : (w : ℕ) (way : Wrap) (glyphs : List Glyph) (lines : List (List Glyph)) (k : ℕ) → Wrapped w way glyphs lines → k < length lines → GoesOnAfter w way glyphs lines k
goes_on_after w way glyphs lines k (parts, h, e) near =
    let xs = not_wider glyph_width w glyphs in
    let rule = glyph_rule w way in
    let many = ap length e ∙ length-map parts (map glyph_part) in
    let s = kept_after rule k (with_splits way.hyphens [] xs) parts (omega arith) h in
    let c = splits_after way.hyphens [] xs s.front s.rest s.whole in
    let first : unsplit (take k parts) ≡ take k lines = sym (take-map (map glyph_part) k parts) ∙ sym (ap (take k) e) in
    let later : drop k lines ≡ unsplit (drop k parts) = ap (drop k) e ∙ drop-map (map glyph_part) k parts in
    let glyphs_are : map glyph_part s.front ≡ c.front = ap (map glyph_part) c.front_is ∙ glyphs-with_splits way.hyphens [] c.front in
    let wraps = subst (λ ys. WrapsKept rule ys (drop k parts)) c.rest_is s.after in
    let fits : not_wider glyph_width w c.rest ≡ c.rest = fit_kept w c.rest (fit_rest w c.front c.rest (subst (AllFit glyph_width w) c.whole (all_fit-kept glyph_width w glyphs))) in
    record {
      front = c.front;
      rest = c.rest;
      whole = c.whole;
      before = subst (λ gs. LeavesOutBlanks glyph_blank gs (take k lines)) glyphs_are (subst (LeavesOutBlanks glyph_blank (map glyph_part s.front)) first (left_out s.front (take k parts) s.before));
      after = (drop k parts, wraps, later);
      alone = λ off.
          let here : with_splits way.hyphens (reversed_onto c.front []) c.rest ≡ with_splits way.hyphens [] (not_wider glyph_width w c.rest) =
          ap (λ b. with_splits b (reversed_onto c.front []) c.rest) off ∙ (no_splits (reversed_onto c.front []) c.rest
          ∙ (sym (no_splits [] c.rest) ∙ (ap (λ b. with_splits b [] c.rest) (sym off) ∙ ap (with_splits way.hyphens []) (sym fits)))) in
          (drop k parts, subst (λ ys. WrapsKept rule ys (drop k parts)) here wraps, later);
    }
