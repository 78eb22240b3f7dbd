-- Sums of heights.
use Rattle.std.proofs.Common.{◌≡◌, ℕ, zero, suc, ◌+◌, ◌-◌, ◌<◌, ◌≤◌, List, [], ◌∷◌, length, get_or, take, drop, refl, sym, ap, subst, arith, sum}
use Rattle.std.proofs.lemmas.List.Sums.{sum_by-cons, sum_by-take-drop, sum_by_more}
use Rattle.std.proofs.lemmas.List.{take-take, drop-take}
use Rattle.tui_layout.specs.Sums.{total}

-- the sum of the first heights grows with their count
pub prefix_sum_grows : (xs : List ℕ) (a b : ℕ) → a ≤ b → sum (take a xs) ≤ sum (take b xs)
prefix_sum_grows [] zero b h = omega arith
prefix_sum_grows [] (suc a) zero h = omega arith
prefix_sum_grows [] (suc a) (suc b) h = omega arith
prefix_sum_grows (x ∷ xs) zero b h = omega arith
prefix_sum_grows (x ∷ xs) (suc a) zero h = omega arith
prefix_sum_grows (x ∷ xs) (suc a) (suc b) h =
    omega (arith, sum_by-cons (λ (y : ℕ). y) x (take a xs), sum_by-cons (λ (y : ℕ). y) x (take b xs), prefix_sum_grows xs a b (omega arith))

-- a sum is the difference of two prefix sums
pub total_of : (xs : List ℕ) (a m : ℕ) → sum (take a xs) + sum (take m (drop a xs)) ≡ sum (take (a + m) xs)
total_of xs a m =
    let whole = sum_by-take-drop (λ (y : ℕ). y) (take (a + m) xs) a in
    let front : sum (take a (take (a + m) xs)) ≡ sum (take a xs) = ap sum (take-take a (a + m) xs (omega arith)) in
    let back : sum (drop a (take (a + m) xs)) ≡ sum (take m (drop a xs)) = ap sum (drop-take a m xs) in
    omega (arith, whole, front, back)

pub total-prefix_sum : (xs : List ℕ) (a b : ℕ) → a ≤ b → sum (take a xs) + total xs a b ≡ sum (take b xs)
unfolding total
total-prefix_sum xs a b h =
    let e : a + (b - a) ≡ b = omega arith in
    let P : ℕ → Type 0 = λ n. sum (take a xs) + sum (take (b - a) (drop a xs)) ≡ sum (take n xs) in
    subst P e (total_of xs a (b - a))

pub total-turned : (xs : List ℕ) (a b : ℕ) → b ≤ a → total xs a b ≡ 0
unfolding total
total-turned xs a b h =
    let e : b - a ≡ 0 = omega arith in
    let P : ℕ → Type 0 = λ n. sum (take n (drop a xs)) ≡ 0 in
    subst P (sym e) refl

pub total_wider : (xs : List ℕ) (a b c d : ℕ) → c ≤ a → b ≤ d → a ≤ b → total xs a b ≤ total xs c d
total_wider xs a b c d h k le =
    omega (arith, total-prefix_sum xs a b le, total-prefix_sum xs c d (omega arith), prefix_sum_grows xs c a h, prefix_sum_grows xs b d k)

pub total-one : (xs : List ℕ) (s : ℕ) → s < length xs → total xs s (s + 1) ≡ get_or xs s 0
total-one xs s h = omega (arith, total-prefix_sum xs s (s + 1) (omega arith), sum_by_more (λ (y : ℕ). y) xs s 0 h)
