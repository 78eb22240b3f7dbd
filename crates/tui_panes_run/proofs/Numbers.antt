-- The numbers of leaves, from first to last and from last to first.
use Rattle.std.proofs.Common.{◌≡◌, ℕ, zero, suc, ◌+◌, ◌<◌, ◌≤◌, ◌==◌, if◌then◌else◌, List, ◌∷◌, All, refl, ◌∙◌, arith, inl, inr}
use Rattle.std.specs.Prelude.{◌≢◌, count_by, reverse}
use Rattle.std.specs.List.{AllByRecursion, range_with_len}
use Rattle.std.proofs.lemmas.Bool.{cases_eq, cond-false, cond-true, eq-eqb, ne_eqb}
use Rattle.std.proofs.lemmas.List.Elements.{All-from_recursion}
use Rattle.std.proofs.lemmas.List.Sorted.{All-permutation, IsPermutation-reverse, sum_by-IsPermutation}
use Rattle.std.proofs.lemmas.List.Sums.{sum_by-cons}
use Rattle.tui_scene.specs.Redraw.{IsOrder}
use Rattle.tui_panes_run.specs.Order.{numbers_of}
use Rattle.tui_panes_run.specs.declared.order.Order.{Order}
use Rattle.tui_panes_run.specs.declared.order.Order.TheVariants.{FirstToLast, LastToFirst}

each_below : (n a limit : ℕ) → a + n ≤ limit → AllByRecursion (λ i. i < limit) (range_with_len a n)
each_below zero a limit le = tt
each_below (suc n) a limit le = (omega arith, each_below n (a + 1) limit (omega arith))

-- a number is counted at its own index, and nowhere else
one : ℕ → ℕ → ℕ
one i j = if j == i then 1 else 0

here : (i j : ℕ) → j ≡ i → one i j ≡ 1
unfolding one
here i j e = cond-true _ _ _ (eq-eqb j i e)

elsewhere : (i j : ℕ) → j ≢ i → one i j ≡ 0
unfolding one
elsewhere i j e = cond-false _ _ _ (ne_eqb j i e)

count_one : (i j : ℕ) (js : List ℕ) → count_by (λ j. j == i) (j ∷ js) ≡ one i j + count_by (λ j. j == i) js
unfolding one
count_one i j js = sum_by-cons (λ j. if j == i then 1 else 0) j js

never : (n a i : ℕ) → i < a → count_by (λ j. j == i) (range_with_len a n) ≡ 0
never zero a i lt = refl
never (suc n) a i lt =
    omega (arith, count_one i a (range_with_len (a + 1) n), elsewhere i a (λ e. absurd (omega (arith, e, lt))), never n (a + 1) i (omega arith))

once : (n a i : ℕ) → a ≤ i → i < a + n → count_by (λ j. j == i) (range_with_len a n) ≡ 1
once zero a i le lt = absurd (omega arith)
once (suc n) a i le lt =
    elim (cases_eq a i) [
      | inl same ↦ omega (arith, count_one i a (range_with_len (a + 1) n), here i a same, never n (a + 1) i (omega (arith, same)))
      | inr other ↦ omega (arith, count_one i a (range_with_len (a + 1) n), elsewhere i a other, once n (a + 1) i (greater a i le other) (omega arith))
    ]
  where
    greater : (a i : ℕ) → a ≤ i → a ≢ i → a + 1 ≤ i
    greater a i le other = grind arith

-- each number below n, and each once
range_below : (n : ℕ) → All (λ i. i < n) (range_with_len 0 n)
range_below n = All-from_recursion (λ i. i < n) (range_with_len 0 n) (each_below n 0 n (omega arith))

range_once : (n i : ℕ) → i < n → count_by (λ j. j == i) (range_with_len 0 n) ≡ 1
range_once n i lt = once n 0 i (omega arith) (omega arith)

back_below : (n : ℕ) → All (λ i. i < n) (reverse (range_with_len 0 n))
back_below n = All-permutation (λ i. i < n) (range_with_len 0 n) (reverse (range_with_len 0 n)) (IsPermutation-reverse (range_with_len 0 n)) (range_below n)

back_once : (n i : ℕ) → i < n → count_by (λ j. j == i) (reverse (range_with_len 0 n)) ≡ 1
back_once n i lt =
    sum_by-IsPermutation (λ j. if j == i then 1 else 0) (range_with_len 0 n) (reverse (range_with_len 0 n)) (IsPermutation-reverse (range_with_len 0 n))
    ∙ range_once n i lt

pub is_order : (order : Order) (n : ℕ) → IsOrder n (numbers_of order n)
is_order FirstToLast n = record { below = range_below n; once = range_once n }
is_order LastToFirst n = record { below = back_below n; once = back_once n }
