-- Heights from their prefix sums.
use Rattle.std.proofs.Common.{◌≡◌, ℕ, zero, suc, ◌+◌, ◌-◌, ◌*◌, ◌^◌, ◌<◌, ◌≤◌, List, [], ◌∷◌, ◌++◌, length, get_or, take, refl, sym, ap, subst, ◌∙◌, arith, sum}
use Rattle.std.proofs.lemmas.Grind.{get_or_default_zero}
use Rattle.std.proofs.lemmas.List.{take_all}
use Rattle.std.proofs.lemmas.List.Sums.{sum_by-cons}
use Rattle.tui_layout.specs.Sums.{IsRising, heights_of, total}
use Rattle.tui_layout.proofs.Totals.{total-prefix_sum}

pub length-heights : (b : ℕ) (xs : List ℕ) → length (heights_of b xs) ≡ length xs
length-heights b [] = refl
length-heights b (x ∷ xs) = ap suc (length-heights x xs)

-- each sum is that of the heights up to there
pub sum-take-heights : (b : ℕ) (xs : List ℕ) (k : ℕ) → IsRising b xs → k ≤ length xs → b + sum (take k (heights_of b xs)) ≡ get_or (b ∷ xs) k 0
sum-take-heights b xs zero r h = omega arith
sum-take-heights b [] (suc k) r h = omega arith
sum-take-heights b (x ∷ xs) (suc k) r h =
    omega (arith, sum_by-cons (λ (y : ℕ). y) (x - b) (take k (heights_of x xs)), sum-take-heights x xs k r.2 (omega arith), r.0)

pub sum-heights-cons : (b x : ℕ) (xs : List ℕ) → b ≤ x → b + sum (heights_of b (x ∷ xs)) ≡ x + sum (heights_of x xs)
sum-heights-cons b x xs h = omega (arith, sum_by-cons (λ (y : ℕ). y) (x - b) (heights_of x xs))

-- a sum of numbers of 64 bits
pub sum_small : (b : ℕ) (xs : List ℕ) → IsRising b xs → sum (heights_of b xs) ≤ length xs * (2 ^ 64 - 1)
sum_small b [] r = omega arith
sum_small b (x ∷ xs) r = omega (arith, sum_small x xs r.2, r.0, r.1, sum_by-cons (λ (y : ℕ). y) (x - b) (heights_of x xs))

-- one more height
pub rising_push : (b : ℕ) (xs : List ℕ) (s h : ℕ) → IsRising b xs → h < 2 ^ 64 → s ≡ b + sum (heights_of b xs) + h → IsRising b (xs ++ s ∷ [])
rising_push b [] s h r small e = (omega (arith, e), omega (arith, e), tt)
rising_push b (x ∷ xs) s h r small e = (r.0, r.1, rising_push x xs s h r.2 small (omega (arith, e, sum-heights-cons b x xs r.0)))

pub heights_push : (b : ℕ) (xs : List ℕ) (s h : ℕ) → IsRising b xs → s ≡ b + sum (heights_of b xs) + h → heights_of b (xs ++ s ∷ []) ≡ heights_of b xs ++ h ∷ []
heights_push b [] s h r e = let d : s - b ≡ h = omega (arith, e) in ap (λ k. k ∷ []) d
heights_push b (x ∷ xs) s h r e = ap (λ hs. (x - b) ∷ hs) (heights_push x xs s h r.2 (omega (arith, e, sum-heights-cons b x xs r.0)))

-- the sum of the first k heights, as it is stored and as it is read
prefix_sum_is : (xs hs : List ℕ) (k : ℕ) → heights_of 0 xs ≡ hs → IsRising 0 xs → k ≤ length hs → get_or (0 ∷ xs) k 0 ≡ sum (take k hs)
prefix_sum_is xs hs k view r h =
    let n : length hs ≡ length xs = ap length (sym view) ∙ length-heights 0 xs in
    let P : List ℕ → Type 0 = λ ys. get_or (0 ∷ xs) k 0 ≡ sum (take k ys) in
    subst P view (omega (arith, sum-take-heights 0 xs k r (omega arith)))

pub read_is : (xs hs : List ℕ) (k value : ℕ) → heights_of 0 xs ≡ hs → IsRising 0 xs → (k ≡ 0 → ⊥) → k ≤ length hs → value ≡ get_or xs (k - 1) value
    → value ≡ sum (take k hs)
read_is xs hs zero value view r some h e = absurd (some refl)
read_is xs hs (suc k) value view r some h e =
    let n : length hs ≡ length xs = ap length (sym view) ∙ length-heights 0 xs in
    let place : suc k - 1 ≡ k = omega arith in
    e ∙ ap (λ j. get_or xs j value) place ∙ get_or_default_zero xs k value (omega arith) ∙ prefix_sum_is xs hs (suc k) view r h

pub last_is : (xs hs : List ℕ) (n last : ℕ) → heights_of 0 xs ≡ hs → n ≡ length hs → last ≡ sum (take n hs) → last ≡ sum (heights_of 0 xs)
last_is xs hs n last view e f = f ∙ ap sum (take_all n hs (omega arith)) ∙ ap sum (sym view)

pub pushed_rises : (xs new : List ℕ) (s h : ℕ) → IsRising 0 xs → h < 2 ^ 64 → s ≡ sum (heights_of 0 xs) + h → new ≡ xs ++ s ∷ [] → IsRising 0 new
pushed_rises xs new s h r small e n =
    let P : List ℕ → Type 0 = λ ys. IsRising 0 ys in subst P (sym n) (rising_push 0 xs s h r small (omega (arith, e)))

pub pushed_heights : (xs new hs : List ℕ) (s h : ℕ) → heights_of 0 xs ≡ hs → IsRising 0 xs → s ≡ sum (heights_of 0 xs) + h → new ≡ xs ++ s ∷ []
    → heights_of 0 new ≡ hs ++ h ∷ []
pushed_heights xs new hs s h view r e n = ap (heights_of 0) n ∙ heights_push 0 xs s h r (omega (arith, e)) ∙ ap (λ ys. ys ++ h ∷ []) view

pub difference : (hs : List ℕ) (a b start last : ℕ) → a ≤ b → start ≡ sum (take a hs) → last ≡ sum (take b hs) → (start ≤ last) × (last - start ≡ total hs a b)
difference hs a b start last le e f = (omega (arith, e, f, total-prefix_sum hs a b le), omega (arith, e, f, total-prefix_sum hs a b le))
