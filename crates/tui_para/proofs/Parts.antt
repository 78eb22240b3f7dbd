-- Lines taken one after another from the graphemes of a text line.
use Rattle.std.proofs.Common.{◌≡◌, ℕ, ◌+◌, ◌-◌, ◌<◌, ◌≤◌, List, [], ◌∷◌, length, take, drop, true, map, refl, sym, ap, ◌∙◌, subst, arith, All, ⊎_elim}
use Rattle.std.specs.Prelude.{◌≢◌, sum_by}
use Rattle.std.specs.List.{between}
use Rattle.std.proofs.lemmas.List.{drop-drop, drop-map, take-map, take_rest}
use Rattle.std.proofs.lemmas.List.Elements.{All-map, All-drop}
use Rattle.tui_para.specs.Rule.{Rule}
use Rattle.tui_para.specs.Wrapped.{HasLines, WrapsKept}
use Rattle.tui_para.proofs.Filled.{no_cons}
use Rattle.tui_para.proofs.Mapped.{sum_by-map}

pub between-map : {A B : Type 0} (f : A → B) (start end : ℕ) (xs : List A) → between start end (map f xs) ≡ map f (between start end xs)
between-map f start end xs = ap (take (end - start)) (drop-map f start xs) ∙ take-map f (end - start) (drop start xs)

pub between-nil : {A : Type 0} (place : ℕ) (xs : List A) → between place place xs ≡ []
between-nil place xs = let z : place - place ≡ 0 = omega arith in ap (λ n. take n (drop place xs)) z

-- a range of what is left after the first `place` elements
pub between-drop : {A : Type 0} (place start end : ℕ) (xs : List A) → between start end (drop place xs) ≡ between (place + start) (place + end) xs
between-drop place start end xs =
    let n : place + end - (place + start) ≡ end - start = omega arith in
    ap (take (end - start)) (drop-drop start place xs) ∙ sym (ap (λ i. take i (drop (place + start) xs)) n)

pub no_lines : {A : Type 0} (rule : Rule A) (xs : List A) (lines : List (List A)) → xs ≡ [] → HasLines rule xs lines → lines ≡ []
no_lines rule xs [] e h = refl
no_lines rule xs (l ∷ ls) e h = absurd (h.0 e)

pub lines_some : {A : Type 0} (rule : Rule A) (xs : List A) (lines : List (List A)) → HasLines rule xs lines → xs ≢ [] → 0 < length lines
lines_some rule xs [] h some = absurd (some h)
lines_some rule xs (l ∷ ls) h some = omega arith

module _ {A B : Type 0} (f : A → B) (xs : List A) (ys : List B) (place : ℕ) (seen : ys ≡ take (length (map f xs) - place) (drop place (map f xs))) where
  -- the images of the graphemes from an index on
  pub seen_from : map f (drop place xs) ≡ ys
  seen_from = sym (drop-map f place xs) ∙ (sym (take_rest (map f xs) place) ∙ sym seen)

  pub seen_fit : (size : B → ℕ) (w : ℕ) → All (λ x. size (f x) ≤ w) xs → All (λ y. size y ≤ w) ys
  seen_fit size w h = subst (All (λ y. size y ≤ w)) seen_from (All-map (λ y. size y ≤ w) f (drop place xs) (All-drop (λ x. size (f x) ≤ w) place xs h))

  pub seen_width : (size : B → ℕ) (start end n : ℕ) → n ≡ sum_by size (between start end ys) → n ≡ sum_by (λ x. size (f x)) (between (place + start) (place + end) xs)
  seen_width size start end n e =
      e ∙ (ap (λ t. sum_by size (between start end t)) (sym seen_from) ∙ (ap (sum_by size) (between-map f start end (drop place xs))
      ∙ (sum_by-map f (λ y. true) (λ y. true) size (between start end (drop place xs)) ∙ ap (sum_by (λ x. size (f x))) (between-drop place start end xs))))

-- a text line has at least one line
pub wraps_some : {A : Type 0} (rule : Rule A) (xs : List A) → WrapsKept rule xs [] → ⊥
wraps_some rule xs h = ⊎_elim (λ e. no_cons _ _ e.1) (λ e. e.0 e.1) h
