-- Indices at which a number is in an order.
use Rattle.std.proofs.Common.{◌≡◌, ℕ, suc, ◌+◌, ◌<◌, ◌≤◌, ◌==◌, Bool, true, if◌then◌else◌, List, [], ◌∷◌, length, get_or, set, map, take}
use Rattle.std.proofs.Common.{refl, sym, ap, ◌∙◌, arith, inl, inr}
use Rattle.std.specs.Prelude.{◌≢◌, ◌⊎◌, count_by}
use Rattle.std.proofs.lemmas.List.{get_or_default, get_or-map, get_or-set_other, get_or-set_same, length-map, length-set, same_lists, take-take}
use Rattle.std.proofs.lemmas.List.Elements.{All-get_or}
use Rattle.std.proofs.lemmas.List.Sums.{count_by_more_yes, sum_by-cons, sum_by-take-le}
use Rattle.std.proofs.lemmas.Bool.{cases_eq, cases_lt, cond-false, eq-eqb, ne_eqb}
use Rattle.tui_scene.specs.Redraw.{IsOrder}

-- two indices whose numbers pass a test count two
two_counted : (p : ℕ → Bool) (order : List ℕ) (j k : ℕ) → j < k → k < length order → p (get_or order j 0) ≡ true → p (get_or order k 0) ≡ true →
    2 ≤ count_by p order
two_counted p order j k less within one other =
    let f : ℕ → ℕ = λ i. if p i then 1 else 0 in
    let first = count_by_more_yes p order j 0 (omega arith) one in
    let second = count_by_more_yes p order k 0 within other in
    let same = ap (count_by p) (take-take (j + 1) k order (omega arith)) in
    omega (arith, first, second, same, sum_by-take-le f (take k order) (j + 1), sum_by-take-le f order (k + 1))

-- a number is at only one index
pub one_place : (n : ℕ) (order : List ℕ) (j k : ℕ) → IsOrder n order → j < length order → k < length order → j ≢ k → get_or order j 0 ≢ get_or order k 0
one_place n order j k is lt within other same =
    let below : get_or order k 0 < n = All-get_or (λ i. i < n) order k 0 within is.below in
    let once = is.once (get_or order k 0) below in
    let here = eq-eqb (get_or order k 0) (get_or order k 0) refl in
    let there = eq-eqb (get_or order j 0) (get_or order k 0) same in
    elim (cases_lt j k) [
      | inl less ↦ absurd (omega (arith, once, two_counted (λ i. i == get_or order k 0) order j k less within there here))
      | inr ge ↦ absurd (omega (arith, once, two_counted (λ i. i == get_or order k 0) order k j (omega (arith, other)) lt here there))
    ]

-- setting the element at one number of an order changes only the element at its index
pub set_once : {A : Type 0} (xs : List A) (order : List ℕ) (k : ℕ) (y d : A) → IsOrder (length xs) order → k < length order →
    map (λ i. get_or (set xs (get_or order k 0) y) i d) order ≡ set (map (λ i. get_or xs i d) order) k y
set_once {A = A} xs order k y d is within =
    let leaf = get_or order k 0 in
    let new : ℕ → A = λ i. get_or (set xs leaf y) i d in
    let old : ℕ → A = λ i. get_or xs i d in
    same_lists (map new order) (set (map old order) k y) (length-map order new ∙ sym (length-set (map old order) k y ∙ length-map order old))
    (λ j e lt. let lt' : j < length order = omega (arith, length-map order new) in
    get_or-map new order j 0 e lt' ∙ by_place j e lt' (cases_eq j k))
  where
    by_place : (j : ℕ) (e : A) → j < length order → (j ≡ k) ⊎ (j ≢ k) → get_or (set xs (get_or order k 0) y) (get_or order j 0) d ≡ get_or (set (map (λ i. get_or xs i d) order) k y) j e
    by_place j e lt (inl here) =
        let below : get_or order k 0 < length xs = All-get_or (λ i. i < length xs) order k 0 within is.below in
        ap (λ i. get_or (set xs (get_or order k 0) y) (get_or order i 0) d) here ∙ get_or-set_same xs (get_or order k 0) y d below
        ∙ sym (ap (λ i. get_or (set (map (λ i. get_or xs i d) order) k y) i e) here
        ∙ get_or-set_same (map (λ i. get_or xs i d) order) k y e (omega (arith, length-map order (λ i. get_or xs i d))))
    by_place j e lt (inr other) =
        get_or-set_other xs (get_or order k 0) (get_or order j 0) y d (one_place (length xs) order j k is lt within other)
        ∙ sym (get_or-set_other (map (λ i. get_or xs i d) order) k j y e other ∙ get_or-map (λ i. get_or xs i d) order j 0 e lt)

record Occurs (order : List ℕ) (i : ℕ) : Type 0 where
  pub place : ℕ
  pub within : place < length order
  pub is : get_or order place 0 ≡ i

-- a number that counts once is at some index
occurs : (i : ℕ) (order : List ℕ) → count_by (λ j. j == i) order ≡ 1 → Occurs order i
occurs i [] e = absurd (omega arith)
occurs i (j ∷ order) e =
    elim (cases_eq j i) [
      | inl here ↦ record { place = 0; within = omega arith; is = here }
      | inr other ↦
          (let counted : count_by (λ k. k == i) (j ∷ order) ≡ 0 + count_by (λ k. k == i) order =
          sum_by-cons (λ k. if k == i then 1 else 0) j order ∙ ap (λ n. n + count_by (λ k. k == i) order) (cond-false _ _ _ (ne_eqb j i other)) in
          let later = occurs i order (omega (arith, counted, e)) in
          let lt = later.within in
          record { place = suc later.place; within = omega arith; is = later.is })
    ]

-- what holds at each number of an order holds at each index of the list
pub all_at : {A : Type 0} (f : A → A) (xs ys : List A) (order : List ℕ) (d : A) → IsOrder (length xs) order → length ys ≡ length xs →
    map (λ i. get_or ys i d) order ≡ map f (map (λ i. get_or xs i d) order) → ys ≡ map f xs
all_at {A = A} f xs ys order d is long same =
    same_lists ys (map f xs) (long ∙ sym (length-map xs f)) (λ i e lt.
    let within : i < length xs = omega (arith, long) in
    let at = occurs i order (is.once i within) in
    let old : ℕ → A = λ i. get_or xs i d in
    let new : ℕ → A = λ i. get_or ys i d in
    let there = at.within in
    get_or_default ys i e d lt ∙ ap new (sym at.is) ∙ sym (get_or-map new order at.place 0 e at.within)
    ∙ ap (λ zs. get_or zs at.place e) same ∙ get_or-map f (map old order) at.place d e (omega (arith, length-map order old))
    ∙ ap f (get_or-map old order at.place 0 d at.within ∙ ap old at.is)
    ∙ sym (get_or-map f xs i d e within))
