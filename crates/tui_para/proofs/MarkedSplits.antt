-- Marks that record where words are split.
use Rattle.std.proofs.Common.{◌≡◌, ℕ, zero, suc, ◌+◌, ◌<◌, ◌≤◌, List, [], ◌∷◌, ◌++◌, length, map, get_or, set, take, drop, ◌-◌, Bool, true, false, cond, refl, sym, ap, ◌∙◌, subst, arith}
use Rattle.std.specs.Prelude.{◌&&◌}
use Rattle.std.proofs.lemmas.Grind.{drop-set_at, drop_more_same, take-set_at}
use Rattle.std.proofs.lemmas.List.{append-nil, append_assoc, drop_all, drop_at, drop_more, length-drop, length-set, map-append, take_all, take_at}
use Rattle.tui_text.specs.Grapheme.{Glyph, glyph_blank, glyph_of, glyph_width}
use Rattle.tui_text.specs.declared.grapheme.StyledGrapheme.{StyledGrapheme}
use Rattle.tui_para.specs.Hyphenation.{after_hyphen, after_letter, after, after_all, on_other, marked_from}
use Rattle.tui_para.specs.Hyphens.{is_hyphen, is_letter}
use Rattle.tui_para.specs.Mark.{AreMarks, mark_of}
use Rattle.tui_para.specs.Marked.{HasPushed, splits_of}
use Rattle.tui_para.specs.Wrapped.{not_wider}
use Rattle.tui_para.specs.declared.wrapping.hyphenation.Hyphenation.{Hyphenation}
use Rattle.tui_para.specs.declared.wrapping.hyphenation.Hyphenation.TheVariants.{Off, Neither, Letter, Hyphen}
use Rattle.tui_para.specs.declared.wrapping.mark.Mark.{Mark}
use Rattle.tui_para.specs.declared.wrapping.marked.Marked.{Marked}
use Rattle.tui_para.proofs.PartsRead.{marked_then}
use Rattle.tui_para.proofs.WithSplits.{glyph_part, glyphs-marked, letter_is}
use Rattle.tui_para.proofs.Zipped.{glyphs_zipped, zipped, zipped_drop}

-- the state `Off` stays
stays_off : (g : Glyph) → after Off g ≡ Off
stays_off g = by (is_hyphen g)
  where
    by : (h : Bool) → cond h Off (on_other (glyph_blank g) Off) ≡ Off
    by true = refl
    by false = refl

pub after_off : (gs : List Glyph) → after_all Off gs ≡ Off
after_off [] = refl
after_off (g ∷ gs) = ap (λ b. after_all b gs) (stays_off g) ∙ after_off gs

-- a word is split before a letter after a hyphen
pub split_known : (h : Hyphenation) (g : Glyph) → (after_hyphen h && after_letter (after h g)) ≡ (after_hyphen h && is_letter g)
split_known Off g = refl
split_known Neither g = refl
split_known Letter g = refl
split_known Hyphen g = letter_is Hyphen g

-- graphemes were appended, and then more
pub HasPushed-then : (w : ℕ) (xs ys : List StyledGrapheme) (old middle new : Marked) → HasPushed w xs old middle → HasPushed w ys middle new → HasPushed w (xs ++ ys) old new
HasPushed-then w xs ys old middle new a b =
    let both = sym (map-append glyph_of xs ys) in
    let off = sym (after_off (not_wider glyph_width w (map glyph_of xs))) in
    record {
      after = subst (λ k. splits_of new ≡ splits_of old ++ marked_from Off (not_wider glyph_width w k)) both
          (marked_then w w Off Off (map glyph_of xs) (map glyph_of ys) refl off (splits_of old) (splits_of middle) (splits_of new) a.after b.after);
      same = b.same ∙ a.same;
    }

-- the marks of graphemes that come after others
abbrev pub marks_of : Hyphenation → List StyledGrapheme → List Mark
marks_of h gs = map mark_of (marked_from h (map glyph_of gs))

pub zipped_marks : (h : Hyphenation) (gs : List StyledGrapheme) → zipped gs (marks_of h gs) ≡ marked_from h (map glyph_of gs)
zipped_marks h [] = refl
zipped_marks h (g ∷ gs) = ap (λ k. (glyph_of g, after_hyphen h && is_letter (glyph_of g)) ∷ k) (zipped_marks (after h (glyph_of g)) gs)

long_marks : (h : Hyphenation) (gs : List StyledGrapheme) → length gs ≡ length (marks_of h gs)
long_marks h [] = refl
long_marks h (g ∷ gs) = ap suc (long_marks (after h (glyph_of g)) gs)

tail_marks : (g : StyledGrapheme) (gs : List StyledGrapheme) (m : Mark) (ms : List Mark) → AreMarks (g ∷ gs) (m ∷ ms) → AreMarks gs ms
tail_marks g gs m ms are = record { together = let e = are.together in omega arith; marked = ap (drop 1) are.marked }

-- from index n on the splits are marked
pub zipped_marked : (h : Hyphenation) (n : ℕ) (gs : List StyledGrapheme) (ms : List Mark) → length gs ≡ length ms → n ≤ length gs →
    zipped gs (take n ms ++ marks_of h (drop n gs)) ≡ take n (zipped gs ms) ++ marked_from h (map glyph_of (drop n gs))
zipped_marked h zero gs ms e l = zipped_marks h gs
zipped_marked h (suc n) [] ms e l = absurd (omega arith)
zipped_marked h (suc n) (g ∷ gs) [] e l = absurd (omega arith)
zipped_marked h (suc n) (g ∷ gs) (m ∷ ms) e l = ap (λ k. (glyph_of g, m.split) ∷ k) (zipped_marked h n gs ms (omega arith) (omega arith))

pub are_marked : (h : Hyphenation) (n : ℕ) (gs : List StyledGrapheme) (ms : List Mark) → n ≤ length gs → AreMarks gs ms → AreMarks gs (take n ms ++ marks_of h (drop n gs))
are_marked h zero gs ms l are = record { together = long_marks h gs; marked = sym (ap (map mark_of) (zipped_marks h gs)) }
are_marked h (suc n) [] ms l are = absurd (omega arith)
are_marked h (suc n) (g ∷ gs) [] l are = absurd (let e = are.together in omega arith)
are_marked h (suc n) (g ∷ gs) (m ∷ ms) l are =
    let rest = are_marked h n gs ms (omega arith) (tail_marks g gs m ms are) in
    let first : m ≡ mark_of (glyph_of g, m.split) = ap (λ k. get_or k 0 m) are.marked in
    record {
      together = ap suc rest.together;
      marked = ap (λ k. m ∷ k) rest.marked ∙ ap (λ k. k ∷ map mark_of (zipped gs (take n ms ++ marks_of h (drop n gs)))) first;
    }

-- so the graphemes after the others have their words split
pub splits_are_marked : (h b : Hyphenation) (n : ℕ) (gs : List StyledGrapheme) (ms new : List Mark) → length gs ≡ length ms → n ≤ length gs → new ≡ take n ms ++ marks_of h (drop n gs) → b ≡ after_all h (map glyph_of (drop n gs)) →
    (front : List (Glyph × Bool)) (glyphs : List Glyph) → length front ≡ n → zipped gs ms ≡ front ++ marked_from Off glyphs →
    (zipped gs new ≡ front ++ marked_from h glyphs) × (b ≡ after_all h glyphs)
splits_are_marked h b n gs ms new same l marks goes front glyphs many old =
    let off = marked_from Off glyphs in
    let first : take n (zipped gs ms) ≡ front = ap (take n) old ∙ take_at front off n many in
    let last : drop n (zipped gs ms) ≡ off = ap (drop n) old ∙ drop_at front off n many in
    let left : length (drop n gs) ≡ length (drop n ms) = length-drop n gs ∙ (ap (λ k. k - n) same ∙ sym (length-drop n ms)) in
    let are : map glyph_of (drop n gs) ≡ glyphs = sym (glyphs_zipped (drop n gs) (drop n ms) left) ∙ (ap (map glyph_part) (zipped_drop n gs ms same ∙ last) ∙ glyphs-marked Off glyphs) in (
      ap (zipped gs) marks ∙ (zipped_marked h n gs ms same l ∙ (ap (λ k. k ++ marked_from h (map glyph_of (drop n gs))) first ∙ ap (λ k. front ++ marked_from h k) are)),
      goes ∙ ap (after_all h) are,
    )

-- if no word is split, there is nothing to mark
pub nothing_marked : (h : Hyphenation) (splits front : List (Glyph × Bool)) (glyphs : List Glyph) → h ≡ Off → splits ≡ front ++ marked_from Off glyphs →
    (splits ≡ front ++ marked_from h glyphs) × (h ≡ after_all h glyphs)
nothing_marked h splits front glyphs off e =
    (subst (λ k. splits ≡ front ++ marked_from k glyphs) (sym off) e, off ∙ (sym (after_off glyphs) ∙ ap (λ k. after_all k glyphs) (sym off)))

pub mark_at : (gs : List StyledGrapheme) (ms : List Mark) (i : ℕ) (d : Mark) (e : StyledGrapheme) → AreMarks gs ms → i < length ms → get_or ms i d ≡ mark_of (glyph_of (get_or gs i e), (get_or ms i d).split)
mark_at gs [] i d e are l = absurd (omega arith)
mark_at [] (m ∷ ms) i d e are l = absurd (let long = are.together in omega arith)
mark_at (g ∷ gs) (m ∷ ms) zero d e are l = ap (λ k. get_or k 0 d) are.marked
mark_at (g ∷ gs) (m ∷ ms) (suc i) d e are l = mark_at gs ms i d e (tail_marks g gs m ms are) (omega arith)

-- one more split is marked
module _ (gs : List StyledGrapheme) (old ms : List Mark) (i : ℕ) (d : Mark) (e : StyledGrapheme) (are : AreMarks gs old) (long : length ms ≡ length gs) (left : drop i ms ≡ drop i old) (near : i < length gs) where
  abbrev x : Glyph
  x = glyph_of (get_or gs i e)

  same : get_or ms i d ≡ get_or old i d
  same =
      let first = λ (k : List Mark). get_or k 0 d in
      sym (ap first (drop_more ms i d (omega arith))) ∙ (ap first left ∙ ap first (drop_more old i d (let t = are.together in omega arith)))

  mark_is : get_or ms i d ≡ mark_of (x, (get_or old i d).split)
  mark_is = same ∙ mark_at gs old i d e are (let t = are.together in omega arith)

  pub blank_is : (get_or ms i d).blank ≡ glyph_blank x
  blank_is = ap (λ (k : Mark). k.blank) mark_is

  module _ (h b : Hyphenation) (c : Bool) (new : List Mark) (split : c ≡ (after_hyphen h && after_letter b)) (goes : b ≡ after h x) (change : new ≡ set ms i (record (get_or ms i d) { split = c })) where
    abbrev y : Mark
    y = record (get_or ms i d) { split = c }

    mark_known : y ≡ mark_of (x, after_hyphen h && is_letter x)
    mark_known = ap (λ (k : Mark). record k { split = c }) mark_is ∙ ap (λ k. mark_of (x, k)) (split ∙ (ap (λ k. after_hyphen h && after_letter k) goes ∙ split_known h x))

    pub marks_on : take (i + 1) new ++ marks_of b (drop (i + 1) gs) ≡ take i ms ++ marks_of h (drop i gs)
    marks_on =
        let rest = marks_of (after h x) (drop (i + 1) gs) in
        ap (λ k. take (i + 1) new ++ marks_of k (drop (i + 1) gs)) goes
        ∙ (ap (λ k. k ++ rest) (ap (take (i + 1)) change ∙ take-set_at ms i (i + 1) y refl (omega arith))
        ∙ (append_assoc (take i ms) (y ∷ []) rest
        ∙ (ap (λ k. take i ms ++ k ∷ rest) mark_known ∙ ap (λ k. take i ms ++ marks_of h k) (sym (drop_more gs i e near)))))

    pub after_on : after_all b (map glyph_of (drop (i + 1) gs)) ≡ after_all h (map glyph_of (drop i gs))
    after_on = ap (λ k. after_all k (map glyph_of (drop (i + 1) gs))) goes ∙ ap (λ k. after_all h (map glyph_of k)) (sym (drop_more gs i e near))

    pub left_on : drop (i + 1) new ≡ drop (i + 1) old
    left_on =
        let many = length-set ms i y in
        ap (drop (i + 1)) change
        ∙ (ap (drop 1) (sym (drop_more (set ms i y) i d (omega arith)) ∙ drop-set_at ms i i y refl (omega arith)) ∙ drop_more_same ms old i left)

    pub long_on : length new ≡ length gs
    long_on = ap length change ∙ (length-set ms i y ∙ long)

-- all splits are marked
module _ (gs : List StyledGrapheme) (ms : List Mark) (h : Hyphenation) (i : ℕ) (long : length ms ≡ length gs) (far : length gs ≤ i) where
  pub all_after : h ≡ after_all h (map glyph_of (drop i gs))
  all_after = ap (λ k. after_all h (map glyph_of k)) (sym (drop_all i gs far))

  pub all_marks : ms ≡ take i ms ++ marks_of h (drop i gs)
  all_marks = sym (ap (λ k. k ++ marks_of h (drop i gs)) (take_all i ms (omega arith)) ∙ (ap (λ k. ms ++ marks_of h k) (drop_all i gs far) ∙ append-nil ms))
