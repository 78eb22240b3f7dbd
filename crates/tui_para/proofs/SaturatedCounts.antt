-- Counting with a saturated number of lines.
use Rattle.std.proofs.Common.{◌≡◌, ℕ, ◌≤◌, List, [], ◌∷◌, Bool, sym, ap, ◌∙◌, subst, arith}
use Rattle.std.specs.Prelude.{max, nat_le, ◌&&◌}
use Rattle.std.proofs.lemmas.Bool.{cond-true, le-leb}
use Rattle.tui_text.specs.Grapheme.{Glyph, glyph_width}
use Rattle.tui_para.specs.Counting.{step, steps, counted, saturated_count, no_lines}
use Rattle.tui_para.specs.Hyphenation.{after_hyphen, at_start, after, marked_from}
use Rattle.tui_para.specs.Hyphens.{glyph_rule, is_letter, with_splits}
use Rattle.tui_para.specs.Mark.{ends_before, mark_of}
use Rattle.tui_para.specs.Rule.{Rule, ends_piece}
use Rattle.tui_para.specs.Wrapped.{not_wider}
use Rattle.tui_para.specs.declared.counting.counter.Counter.{Counter}
use Rattle.tui_para.specs.declared.wrap.Wrap.{Wrap}
use Rattle.tui_para.specs.declared.wrapping.hyphenation.Hyphenation.{Hyphenation}
use Rattle.tui_para.specs.declared.wrapping.mark.Mark.{Mark}
use Rattle.tui_clusters.specs.Width.{saturated}
use Rattle.tui_para.proofs.WithSplits.{marked_is}

-- a step doesn't depend on the number of lines
step_saturated : (w : ℕ) (trim : Bool) (c : Counter) (s : ℕ) (ends b : Bool) → saturated_count (step w trim (saturated_count c) s ends b) ≡ saturated_count (step w trim c s ends b)
step_saturated w trim c s ends b = grind arith

steps_saturated : {A : Type 0} (rule : Rule A) (c d : Counter) (xs : List A) → saturated_count c ≡ saturated_count d → saturated_count (steps rule c xs) ≡ saturated_count (steps rule d xs)
steps_saturated rule c d [] e = e
steps_saturated rule c d (x ∷ xs) e =
    steps_saturated rule (step rule.width rule.trim c (rule.size x) (ends_piece rule x) (rule.blank x)) (step rule.width rule.trim d (rule.size x) (ends_piece rule x) (rule.blank x)) xs
    (sym (step_saturated rule.width rule.trim c (rule.size x) (ends_piece rule x) (rule.blank x)) ∙ (ap (λ (n : Counter). saturated_count (step rule.width rule.trim n (rule.size x) (ends_piece rule x) (rule.blank x))) e ∙ step_saturated rule.width rule.trim d (rule.size x) (ends_piece rule x) (rule.blank x)))

-- a saturated counter gives the saturated count
pub saturated_counts : (c d : Counter) (n m : ℕ) → saturated_count c ≡ saturated_count d → n ≡ saturated (counted c) → m ≡ max (counted d) 1 → max n 1 ≡ saturated m
saturated_counts c d n m e f g =
    let lines : saturated c.lines ≡ saturated d.lines = ap (λ (x : Counter). x.lines) e in
    let some : c.some ≡ d.some = ap (λ (x : Counter). x.some) e in
    grind arith

-- a grapheme that fits a line is read
module _ (w : ℕ) (way : Wrap) (h b : Hyphenation) (m : Mark) (x : Glyph) (xs zs : List Glyph) (next : zs ≡ x ∷ xs) (marked : m ≡ mark_of (x, after_hyphen h && is_letter x)) where
  pub one_read : (c d : Counter) → b ≡ after h x → m.width ≤ w → saturated_count d ≡ saturated_count (step w way.trim c m.width (ends_before m) m.blank) →
      saturated_count (steps (glyph_rule w way) d (marked_from b (not_wider glyph_width w xs))) ≡ saturated_count (steps (glyph_rule w way) c (marked_from h (not_wider glyph_width w zs)))
  one_read c d goes small read =
      let rule = glyph_rule w way in
      let p : Glyph × Bool = (x, after_hyphen h && is_letter x) in
      let fits : glyph_width x ≤ w = subst (λ (k : Mark). k.width ≤ w) marked small in
      let left = marked_from (after h x) (not_wider glyph_width w xs) in
      let all : not_wider glyph_width w zs ≡ x ∷ not_wider glyph_width w xs =
      ap (not_wider glyph_width w) next ∙ cond-true (nat_le (glyph_width x) w) (x ∷ not_wider glyph_width w xs) (not_wider glyph_width w xs) (le-leb (glyph_width x) w fits) in
      let same : saturated_count d ≡ saturated_count (step w way.trim c (rule.size p) (ends_piece rule p) (rule.blank p)) =
      read ∙ ap (λ (k : Mark). saturated_count (step w way.trim c k.width (ends_before k) k.blank)) marked in
      ap (λ k. saturated_count (steps rule d (marked_from k (not_wider glyph_width w xs)))) goes
      ∙ (steps_saturated rule d (step w way.trim c (rule.size p) (ends_piece rule p) (rule.blank p)) left same
      ∙ ap (λ ys. saturated_count (steps rule c (marked_from h ys))) (sym all))

-- before any grapheme is read
pub begun_counts : (w : ℕ) (way : Wrap) (c : Counter) (h : Hyphenation) (gs xs : List Glyph) → c ≡ no_lines → h ≡ at_start way.hyphens → gs ≡ xs →
    saturated_count (steps (glyph_rule w way) c (marked_from h (not_wider glyph_width w gs))) ≡ saturated_count (steps (glyph_rule w way) no_lines (with_splits way.hyphens [] (not_wider glyph_width w xs)))
begun_counts w way c h gs xs none start same =
    let rule = glyph_rule w way in
    ap (λ (k : Counter). saturated_count (steps rule k (marked_from h (not_wider glyph_width w gs)))) none
    ∙ (ap (λ b. saturated_count (steps rule no_lines (marked_from b (not_wider glyph_width w gs)))) start
    ∙ (ap (λ ys. saturated_count (steps rule no_lines (marked_from (at_start way.hyphens) (not_wider glyph_width w ys)))) same
    ∙ ap (λ ys. saturated_count (steps rule no_lines ys)) (marked_is way.hyphens (not_wider glyph_width w xs))))
