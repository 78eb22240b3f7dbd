-- Binary searches.
use Rattle.std.proofs.Common.{◌≡◌, ℕ, suc, ◌+◌, ◌-◌, ◌*◌, ◌^◌, ◌<◌, ◌≤◌, max, List, length, sym, subst, inl, inr, arith}
use Rattle.std.proofs.Math.Nat.{mul-le-mul_left, pow-suc}
use Rattle.std.proofs.lemmas.Bool.{cases_lt}
use Rattle.tui_layout.specs.declared.binary_search.SearchRange.{SearchRange}
use Rattle.tui_layout.specs.declared.binary_search.SearchRange.TheVariants.{Around, Back, From}
use Rattle.tui_layout.specs.Sums.{total}
use Rattle.tui_layout.specs.Window.{end_around}
use Rattle.tui_layout.specs.BinarySearch.{IsLowest, IsGreatestFit, IsProbeBound, IsProbe, IsSearchCost, sum_at}
use Rattle.tui_layout.proofs.Totals.{total_wider}

sum_grows : (xs : List ℕ) (reach : SearchRange) (a b : ℕ) → IsProbe xs reach a → IsProbe xs reach b → a ≤ b → sum_at xs reach a ≤ sum_at xs reach b
sum_grows xs (Around s) a b u v le =
    total_wider xs (s - a) (end_around xs s a) (s - b) (end_around xs s b) (omega arith) (omega arith) (omega arith)
sum_grows xs (From first) a b u v le = total_wider xs first a first b (omega arith) le u.0
sum_grows xs (Back latest last) a b u v le = total_wider xs (latest - a) last (latest - b) last (omega arith) (omega arith) (omega (arith, u.1))

-- the numbers above high don't fit, and the steps so far have halved what is left
pub record IsSearching (xs : List ℕ) (reach : SearchRange) (height least most low high before now : ℕ) : Type 0 where
  pub above : least ≤ low
  pub order : low ≤ high
  pub within : high ≤ most
  pub fits : sum_at xs reach low ≤ height
  pub greatest : (q : ℕ) → least ≤ q → q ≤ most → sum_at xs reach q ≤ height → q ≤ high
  pub grows : before ≤ now
  pub cost : 2 ^ (now - before) * (high - low) ≤ length xs
  pub spent : 2 ^ (now - before) ≤ 2 * length xs

-- what one more step costs
next_power : (before now : ℕ) → before ≤ now → 2 ^ (now + 1 - before) ≡ 2 * 2 ^ (now - before)
next_power before now h =
    let e : suc (now - before) ≡ now + 1 - before = omega arith in
    let P : ℕ → Type 0 = λ n. 2 ^ n ≡ 2 * 2 ^ (now - before) in subst P e (omega (arith, pow-suc 2 (now - before)))

next_cost : (power left right size : ℕ) → power * left ≤ size → 2 * right ≤ left → (2 * power) * right ≤ size
next_cost power left right size h le = omega (arith, h, mul-le-mul_left power le)

next_spent : (power left size : ℕ) → power * left ≤ size → 1 ≤ left → 2 * power ≤ 2 * size
next_spent power left size h le = omega (arith, h, mul-le-mul_left power le)

-- a step that raises `low`, and one that lowers `high`
pub halved_up : (xs : List ℕ) (reach : SearchRange) (height least most low high before now after middle : ℕ)
    → IsSearching xs reach height least most low high before now → low < middle → middle ≤ high → 2 * (high - middle) ≤ high - low
    → sum_at xs reach middle ≤ height → after ≡ now + 1
    → IsSearching xs reach height least most middle high before after
halved_up xs reach height least most low high before now after middle x above within half f step =
    let two = next_power before now x.grows in
    rw step
    (record {
      above = omega (arith, x.above);
      order = within;
      within = x.within;
      fits = f;
      greatest = x.greatest;
      grows = omega (arith, x.grows);
      cost = rw two (next_cost (2 ^ (now - before)) (high - low) (high - middle) (length xs) x.cost half);
      spent = rw two (next_spent (2 ^ (now - before)) (high - low) (length xs) x.cost (omega arith));
    })

pub halved_down : (xs : List ℕ) (reach : SearchRange) (height least most low high before now after middle : ℕ)
    → IsSearching xs reach height least most low high before now → low < middle → middle ≤ high → 2 * (middle - 1 - low) ≤ high - low
    → ((m : ℕ) → least ≤ m → m ≤ most → IsProbe xs reach m)
    → height < sum_at xs reach middle → after ≡ now + 1
    → IsSearching xs reach height least most low (middle - 1) before after
halved_down xs reach height least most low high before now after middle x above within half ready f step =
    let two = next_power before now x.grows in
    let over = λ (q : ℕ) (ql : least ≤ q) (qm : q ≤ most) (le : middle ≤ q).
    sum_grows xs reach middle q (ready middle (omega (arith, x.above)) (omega (arith, x.within))) (ready q ql qm) le in
    rw step
    (record {
      above = x.above;
      order = omega arith;
      within = omega (arith, x.within);
      fits = x.fits;
      greatest = λ q ql qm qf. elim (cases_lt q middle) [ inl lt ↦ omega arith | inr le ↦ absurd (omega (arith, qf, f, over q ql qm le)) ];
      grows = omega (arith, x.grows);
      cost = rw two (next_cost (2 ^ (now - before)) (high - low) (middle - 1 - low) (length xs) x.cost half);
      spent = rw two (next_spent (2 ^ (now - before)) (high - low) (length xs) x.cost (omega arith));
    })

-- the steps of three searches together
pow_max : (a b m : ℕ) → 2 ^ a ≤ m → 2 ^ b ≤ m → 2 ^ max a b ≤ m
pow_max a b m u v = elim (cases_lt a b) [
  | inl lt ↦ let e : b ≡ max a b = omega arith in let P : ℕ → Type 0 = λ n. 2 ^ n ≤ m in subst P e v
  | inr le ↦ let e : a ≡ max a b = omega arith in let P : ℕ → Type 0 = λ n. 2 ^ n ≤ m in subst P e u
]

pub probing_three : (n start a b c d : ℕ) → a ≡ start + 1 → IsSearchCost n a b → IsSearchCost n b c → IsSearchCost n c d → IsProbeBound n start d
probing_three n start a b c d e x y z = record {
  d = max (b - a) (max (c - b) (d - c));
  small = pow_max (b - a) (max (c - b) (d - c)) (2 * n) x.cost (pow_max (c - b) (d - c) (2 * n) y.cost z.cost);
  grows = omega (arith, x.grows, y.grows, z.grows);
  bound = omega (arith, x.grows, y.grows, z.grows);
}

-- the items that reach farthest back begin at the lowest offset
lowest_from_most : (xs : List ℕ) (height s p back : ℕ) → s < length xs
    → IsGreatestFit xs (Back (s - p) (end_around xs s p)) height 0 (s - p) back → IsLowest xs height s p (s - p - back)
lowest_from_most xs height s p back h x = record {
  shows_selected = record { before = omega arith; fits = x.fits };
  least = λ o shows_selected.
      let P : ℕ → Type 0 = λ o. total xs o (end_around xs s p) ≤ height in
      let e : o ≡ s - p - (s - p - o) = omega (arith, shows_selected.before) in
      omega (arith, shows_selected.before, x.greatest (s - p - o) (omega arith) (omega arith) (subst P e shows_selected.fits));
}

pub lowest_found_back : (xs : List ℕ) (height s p latest last back : ℕ) → s < length xs → latest ≡ s - p → last ≡ end_around xs s p
    → IsGreatestFit xs (Back latest last) height 0 latest back → IsLowest xs height s p (latest - back)
lowest_found_back xs height s p latest last back h e f x =
    let P : ℕ → Type 0 = λ n. IsGreatestFit xs (Back latest n) height 0 latest back in
    let Q : ℕ → Type 0 = λ n. IsGreatestFit xs (Back n (end_around xs s p)) height 0 n back in
    let R : ℕ → Type 0 = λ n. IsLowest xs height s p (n - back) in
    subst R (sym e) (lowest_from_most xs height s p back h (subst Q e (subst P f x)))
