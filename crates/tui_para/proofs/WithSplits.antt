-- Graphemes with and without their splits.
use Rattle.std.proofs.Common.{◌≡◌, ℕ, ◌≤◌, List, [], ◌∷◌, ◌++◌, length, map, drop, Bool, true, false, All, Option, Some, None, option_map, refl, sym, ap, ◌∙◌, subst}
use Rattle.std.specs.Prelude.{◌&&◌, cond, not, max, sum_by}
use Rattle.std.specs.List.{between}
use Rattle.std.proofs.lemmas.List.{length-map, map-append}
use Rattle.std.proofs.lemmas.List.Elements.{All-append, All-drop, All-from_recursion, All-map}
use Rattle.tui_text.specs.Grapheme.{Glyph, glyph_blank, glyph_width}
use Rattle.tui_para.specs.Counting.{counted, no_lines, steps}
use Rattle.tui_para.specs.Hyphenation.{after_hyphen, after_letter, at_start, after, after_all, on_hyphen, on_other, marked_from}
use Rattle.tui_para.specs.Hyphens.{Unsplit, Wrapped, glyph_rule, is_split, is_hyphen, is_letter, unsplit, with_splits, wrap}
use Rattle.tui_para.specs.Lines.{IsTakenOf}
use Rattle.tui_para.specs.Places.{wrap_kept}
use Rattle.tui_para.specs.Wrapped.{IsUnique, LeavesOutBlanks, WrapsKept, not_wider}
use Rattle.tui_para.specs.declared.wrap.Wrap.{Wrap}
use Rattle.tui_para.specs.declared.wrapping.hyphenation.Hyphenation.{Hyphenation}
use Rattle.tui_para.specs.declared.wrapping.hyphenation.Hyphenation.TheVariants.{Off, Neither, Letter, Hyphen}
use Rattle.tui_para.proofs.Greedy.{AllFit, all_fit-kept, wrap_kept_is}
use Rattle.tui_para.proofs.LeftOut.{leaves_out_blanks}
use Rattle.tui_para.proofs.LineCounts.{wrap_count}
use Rattle.tui_para.proofs.Mapped.{sum_by-map}
use Rattle.tui_para.proofs.Parts.{between-map, wraps_some as some_lines}
use Rattle.tui_para.proofs.Unique.{same_kept}

abbrev pub glyph_part : Glyph × Bool → Glyph
glyph_part p = p.0

-- the graphemes are the same
pub glyphs-with_splits : (hyphens : Bool) (before gs : List Glyph) → map glyph_part (with_splits hyphens before gs) ≡ gs
glyphs-with_splits hyphens before [] = refl
glyphs-with_splits hyphens before (g ∷ gs) = ap (λ k. g ∷ k) (glyphs-with_splits hyphens (g ∷ before) gs)

pub glyphs-marked : (before : Hyphenation) (gs : List Glyph) → map glyph_part (marked_from before gs) ≡ gs
glyphs-marked before [] = refl
glyphs-marked before (g ∷ gs) = ap (λ k. g ∷ k) (glyphs-marked (after before g) gs)

pub fit-with_splits : (w : ℕ) (hyphens : Bool) (before gs : List Glyph) → AllFit glyph_width w gs → AllFit (λ (p : Glyph × Bool). glyph_width p.0) w (with_splits hyphens before gs)
fit-with_splits w hyphens before [] h = tt
fit-with_splits w hyphens before (g ∷ gs) h = (h.0, fit-with_splits w hyphens (g ∷ before) gs h.1)

pub fit-marked : (w : ℕ) (before : Hyphenation) (gs : List Glyph) → AllFit glyph_width w gs → AllFit (λ (p : Glyph × Bool). glyph_width p.0) w (marked_from before gs)
fit-marked w before [] h = tt
fit-marked w before (g ∷ gs) h = (h.0, fit-marked w (after before g) gs h.1)

-- the splits of two lists, one after the other
pub marked-append : (before : Hyphenation) (xs ys : List Glyph) → marked_from before (xs ++ ys) ≡ marked_from before xs ++ marked_from (after_all before xs) ys
marked-append before [] ys = refl
marked-append before (x ∷ xs) ys = ap (λ k. (x, after_hyphen before && is_letter x) ∷ k) (marked-append (after before x) xs ys)

pub after-append : (before : Hyphenation) (xs ys : List Glyph) → after_all before (xs ++ ys) ≡ after_all (after_all before xs) ys
after-append before [] ys = refl
after-append before (x ∷ xs) ys = after-append (after before x) xs ys

-- the state after these graphemes, the last one first
abbrev state_of : Bool → List Glyph → Hyphenation
state_of hyphens [] = at_start hyphens
state_of hyphens (g ∷ before) = after (state_of hyphens before) g

abbrev is_on : Hyphenation → Bool
is_on Off = false
is_on Neither = true
is_on Letter = true
is_on Hyphen = true

stays_on : (b : Hyphenation) (g : Glyph) → is_on (after b g) ≡ is_on b
stays_on b g = by b (is_hyphen g) (glyph_blank g)
  where
    by : (b : Hyphenation) (h k : Bool) → is_on (cond h (on_hyphen b) (on_other k b)) ≡ is_on b
    by Off true k = refl
    by Off false k = refl
    by Neither true k = refl
    by Neither false true = refl
    by Neither false false = refl
    by Letter true k = refl
    by Letter false true = refl
    by Letter false false = refl
    by Hyphen true k = refl
    by Hyphen false true = refl
    by Hyphen false false = refl

on_of : (hyphens : Bool) (before : List Glyph) → is_on (state_of hyphens before) ≡ hyphens
on_of true [] = refl
on_of false [] = refl
on_of hyphens (g ∷ before) = stays_on (state_of hyphens before) g ∙ on_of hyphens before

pub letter_is : (b : Hyphenation) (g : Glyph) → after_letter (after b g) ≡ (is_on b && is_letter g)
letter_is b g = by b (is_hyphen g) (glyph_blank g)
  where
    by : (b : Hyphenation) (h k : Bool) → after_letter (cond h (on_hyphen b) (on_other k b)) ≡ (is_on b && (not h && not k))
    by Off true k = refl
    by Off false k = refl
    by Neither true k = refl
    by Neither false true = refl
    by Neither false false = refl
    by Letter true k = refl
    by Letter false true = refl
    by Letter false false = refl
    by Hyphen true k = refl
    by Hyphen false true = refl
    by Hyphen false false = refl

hyphen_is : (b : Hyphenation) (g : Glyph) → after_hyphen (after b g) ≡ (after_letter b && is_hyphen g)
hyphen_is b g = by b (is_hyphen g) (glyph_blank g)
  where
    by : (b : Hyphenation) (h k : Bool) → after_hyphen (cond h (on_hyphen b) (on_other k b)) ≡ (after_letter b && h)
    by Off true k = refl
    by Off false k = refl
    by Neither true k = refl
    by Neither false true = refl
    by Neither false false = refl
    by Letter true k = refl
    by Letter false true = refl
    by Letter false false = refl
    by Hyphen true k = refl
    by Hyphen false true = refl
    by Hyphen false false = refl

and_moves : (a b c d : Bool) → (((a && b) && c) && d) ≡ (a && (b && c && d))
and_moves true true c d = refl
and_moves true false c d = refl
and_moves false b c d = refl

none_first : (h : Bool) → (after_hyphen (at_start h)) ≡ false
none_first true = refl
none_first false = refl

no_letter_first : (h : Bool) → (after_letter (at_start h)) ≡ false
no_letter_first true = refl
no_letter_first false = refl

and_false : (h : Bool) → (h && false) ≡ false
and_false true = refl
and_false false = refl

-- the words are split at the same places
split_is : (hyphens : Bool) (before : List Glyph) (g : Glyph) → (after_hyphen (state_of hyphens before) && is_letter g) ≡ (hyphens && is_split before g)
split_is hyphens [] g = ap (λ b. b && is_letter g) (none_first hyphens) ∙ sym (and_false hyphens)
split_is hyphens (h ∷ []) g =
    ap (λ b. b && is_letter g) (hyphen_is (at_start hyphens) h ∙ ap (λ b. b && is_hyphen h) (no_letter_first hyphens)) ∙ sym (and_false hyphens)
split_is hyphens (h ∷ l ∷ before) g =
    let s = state_of hyphens before in
    ap (λ b. b && is_letter g) (hyphen_is (after s l) h ∙ ap (λ b. b && is_hyphen h) (letter_is s l ∙ ap (λ b. b && is_letter l) (on_of hyphens before)))
    ∙ and_moves hyphens (is_letter l) (is_hyphen h) (is_letter g)

marked_after : (hyphens : Bool) (before gs : List Glyph) → marked_from (state_of hyphens before) gs ≡ with_splits hyphens before gs
marked_after hyphens before [] = refl
marked_after hyphens before (g ∷ gs) =
    ap (λ b. (g, b) ∷ marked_from (state_of hyphens (g ∷ before)) gs) (split_is hyphens before g)
    ∙ ap (λ k. (g, hyphens && is_split before g) ∷ k) (marked_after hyphens (g ∷ before) gs)

pub marked_is : (hyphens : Bool) (gs : List Glyph) → marked_from (at_start hyphens) gs ≡ with_splits hyphens [] gs
marked_is hyphens gs = marked_after hyphens [] gs

-- exactly one list of lines
module _ (w : ℕ) (way : Wrap) (glyphs : List Glyph) where
  abbrev marked : List (Glyph × Bool)
  marked = with_splits way.hyphens [] (not_wider glyph_width w glyphs)

  pub fit_marked : AllFit (λ (p : Glyph × Bool). glyph_width p.0) w marked
  fit_marked = fit-with_splits w way.hyphens [] (not_wider glyph_width w glyphs) (all_fit-kept glyph_width w glyphs)

  pub wrap_is : Wrapped w way glyphs (wrap w way glyphs)
  wrap_is = (wrap_kept (glyph_rule w way) marked, wrap_kept_is (glyph_rule w way) marked fit_marked, refl)

  pub wraps_only : (lines : List (List Glyph)) → Wrapped w way glyphs lines → lines ≡ wrap w way glyphs
  wraps_only lines (parts, h, e) = e ∙ ap unsplit (same_kept (glyph_rule w way) marked parts (wrap_kept (glyph_rule w way) marked) h (wrap_kept_is (glyph_rule w way) marked fit_marked))

  pub exactly_one : IsUnique (Wrapped w way glyphs) (wrap w way glyphs)
  exactly_one = record { meets = wrap_is; alone = wraps_only }

no_lines_unsplit : (parts : List (List (Glyph × Bool))) → [] ≡ unsplit parts → parts ≡ []
no_lines_unsplit [] e = refl
no_lines_unsplit (p ∷ ps) e = absurd (cc)

-- a text line has at least one line
pub wraps_some : (w : ℕ) (way : Wrap) (glyphs : List Glyph) → Wrapped w way glyphs [] → ⊥
wraps_some w way glyphs (parts, h, e) =
    some_lines (glyph_rule w way) (with_splits way.hyphens [] (not_wider glyph_width w glyphs)) (subst (WrapsKept (glyph_rule w way) (with_splits way.hyphens [] (not_wider glyph_width w glyphs))) (no_lines_unsplit parts e) h)

-- what the lines leave out of graphemes with splits, they leave out of the graphemes too
all_glyphs : (xs : List (Glyph × Bool)) → All (λ p. glyph_blank p.0 ≡ true) xs → All (λ g. glyph_blank g ≡ true) (map glyph_part xs)
all_glyphs xs h = All-map (λ g. glyph_blank g ≡ true) glyph_part xs h

pub left_out : (xs : List (Glyph × Bool)) (lines : List (List (Glyph × Bool))) → LeavesOutBlanks (λ p. glyph_blank p.0) xs lines → LeavesOutBlanks glyph_blank (map glyph_part xs) (unsplit lines)
left_out xs [] h = ap (map glyph_part) h
left_out xs (line ∷ lines) (before, after, rest, all_before, all_after, whole, more) =
    let mapped = map-append glyph_part before (line ++ (after ++ rest)) ∙ ap (λ k. map glyph_part before ++ k) (map-append glyph_part line (after ++ rest)
    ∙ ap (λ k. map glyph_part line ++ k) (map-append glyph_part after rest)) in
    (map glyph_part before, map glyph_part after, map glyph_part rest, all_glyphs before all_before, all_glyphs after all_after, ap (map glyph_part) whole ∙ mapped, left_out rest lines more)

pub wrapping_leaves : (w : ℕ) (way : Wrap) (glyphs : List Glyph) (lines : List (List Glyph)) → Wrapped w way glyphs lines → LeavesOutBlanks glyph_blank (not_wider glyph_width w glyphs) lines
wrapping_leaves w way glyphs lines (parts, h, e) =
    let xs = not_wider glyph_width w glyphs in
    let out = left_out (with_splits way.hyphens [] xs) parts (leaves_out_blanks (glyph_rule w way) (with_splits way.hyphens [] xs) parts h) in
    subst (LeavesOutBlanks glyph_blank xs) (sym e) (subst (λ ys. LeavesOutBlanks glyph_blank ys (unsplit parts)) (glyphs-with_splits way.hyphens [] xs) out)

-- the first line without its splits is the first of the lines without their splits
pub first_unsplit : (first : Option (List (Glyph × Bool))) (P Q : List (List (Glyph × Bool)) → Type 0) → IsTakenOf first P Q → IsTakenOf (option_map (map glyph_part) first) (Unsplit P) (Unsplit Q)
first_unsplit None P Q f = record {
  yields = ([], f.yields, refl);
  takes = λ lines (parts, p, e). (let t = f.takes parts p in (e ∙ ap unsplit t.0, ([], t.1, refl)));
}
first_unsplit (Some x) P Q f = record {
  yields = λ rest (parts, q, e). (x ∷ parts, f.yields parts q, ap (λ k. map glyph_part x ∷ k) e);
  takes = λ lines (parts, p, e). (let (rest, is, q) = f.takes parts p in (unsplit rest, e ∙ ap unsplit is, (rest, q, refl)));
}

-- the width of a part, in columns
pub seen_columns : (xs : List (Glyph × Bool)) (start end n : ℕ) → n ≡ sum_by (λ (p : Glyph × Bool). glyph_width p.0) (between start end xs) → n ≡ sum_by glyph_width (between start end (map glyph_part xs))
seen_columns xs start end n e =
    e ∙ (sym (sum_by-map glyph_part (λ g. true) (λ g. true) glyph_width (between start end xs)) ∙ ap (sum_by glyph_width) (sym (between-map glyph_part start end xs)))

-- graphemes fit that are read after some of those that fit
pub fit_after : (w n : ℕ) (b : Hyphenation) (xs front after : List (Glyph × Bool)) (ys : List Glyph) → All (λ (p : Glyph × Bool). glyph_width p.0 ≤ w) xs → front ≡ drop n xs →
    after ≡ front ++ marked_from b (not_wider glyph_width w ys) → All (λ (p : Glyph × Bool). glyph_width p.0 ≤ w) after
fit_after w n b xs front after ys fit front_is e =
    let fits = λ (p : Glyph × Bool). glyph_width p.0 ≤ w in
    let left = marked_from b (not_wider glyph_width w ys) in
    subst (All fits) (sym e) (All-append fits front left (subst (All fits) (sym front_is) (All-drop fits n xs fit)) (All-from_recursion fits left (fit-marked w b (not_wider glyph_width w ys) (all_fit-kept glyph_width w ys))))

-- the counter counts the lines
pub counted_lines : (w : ℕ) (way : Wrap) (glyphs : List Glyph) → length (wrap w way glyphs) ≡ max (counted (steps (glyph_rule w way) no_lines (with_splits way.hyphens [] (not_wider glyph_width w glyphs)))) 1
counted_lines w way glyphs =
    let rule = glyph_rule w way in
    let xs = with_splits way.hyphens [] (not_wider glyph_width w glyphs) in
    length-map (wrap_kept rule xs) (map glyph_part) ∙ wrap_count rule xs (wrap_kept rule xs) (fit_marked w way glyphs) (wrap_kept_is rule xs (fit_marked w way glyphs))
