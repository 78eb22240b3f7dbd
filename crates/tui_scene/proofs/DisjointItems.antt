-- Strokes of things whose regions share no position: at each position at most one of them is visible.
use Rattle.std.proofs.Common.{◌≡◌, ℕ, zero, suc, ◌+◌, ◌<◌, ◌==◌, Bool, true, false, ◌&&◌, List, []}
use Rattle.std.proofs.Common.{◌∷◌, length, get_or, set, map, refl, sym, ap, ◌∙◌, subst, arith, inl, inr}
use Rattle.std.specs.Prelude.{◌⊎◌, ◌≢◌, flat_map, count_by, All, AllPairs, if◌then◌else◌, slice_index_or, slice_set}
use Rattle.std.specs.List.{AllByRecursion}
use Rattle.std.proofs.lemmas.List.{get_or-set_other, get_or-set_same, length-set}
use Rattle.std.proofs.lemmas.List.Sums.{sum_by-cons}
use Rattle.std.proofs.lemmas.List.Elements.{All-get_or, recursion_from_All}
use Rattle.std.proofs.lemmas.Bool.{cases_lt, cases_eq, cond-true, cond-false, eq-eqb, ne_eqb}
use Rattle.tui_cells.specs.Cell.{Look}
use Rattle.tui_cells.specs.Layers.{Layer, StayIn, layers_at}
use Rattle.tui_cells.proofs.Painting.{layers_at-append}
use Rattle.tui_scene.specs.Redraw.{IsOrder}

-- strokes and the region that they stay in
pub record Stroked : Type 0 where
  pub region : ℕ → ℕ → Bool
  pub layers : List Layer

abbrev pub all_layers : List Stroked → List Layer
all_layers xs = flat_map (λ x. x.layers) xs

pub record KeepApart (xs : List Stroked) : Type 0 where
  pub stay : All (λ a. StayIn a.region a.layers) xs
  pub apart : AllPairs (λ a b. (x y : ℕ) → (a.region x y && b.region x y) ≡ false) xs

-- the things at these indices, in the order of the list
abbrev pub in_order : List Stroked → Stroked → List ℕ → List Stroked
in_order xs d order = map (λ i. slice_index_or xs i d) order

-- strokes that do not change a position
abbrev Leaves : ℕ → ℕ → Stroked → Type 0
Leaves x y a = (c : Look) → layers_at a.layers x y c ≡ c

none_seen : (x y : ℕ) (xs : List Stroked) (c : Look) → AllByRecursion (Leaves x y) xs → layers_at (all_layers xs) x y c ≡ c
none_seen x y [] c h = refl
none_seen x y (a ∷ xs) c h = layers_at-append a.layers (all_layers xs) x y c ∙ none_seen x y xs (layers_at a.layers x y c) h.1 ∙ h.0 c

-- all things but one do not change the position
abbrev Sole : ℕ → ℕ → Stroked → List Stroked → Type 0
Sole x y a [] = ⊥
Sole x y a (b ∷ xs) = ((b ≡ a) × AllByRecursion (Leaves x y) xs) ⊎ (Leaves x y b × Sole x y a xs)

one_seen : (x y : ℕ) (a : Stroked) (xs : List Stroked) (c : Look) → Sole x y a xs → layers_at (all_layers xs) x y c ≡ layers_at a.layers x y c
one_seen x y a [] c s = absurd s
one_seen x y a (b ∷ xs) c s =
    elim s [
      | inl here ↦ layers_at-append b.layers (all_layers xs) x y c ∙ none_seen x y xs (layers_at b.layers x y c) here.1
          ∙ ap (λ (e : Stroked). layers_at e.layers x y c) here.0
      | inr later ↦ layers_at-append b.layers (all_layers xs) x y c ∙ ap (layers_at (all_layers xs) x y) (later.0 c) ∙ one_seen x y a xs c later.1
    ]

-- the same from what is known of each index

all_leave : (x y : ℕ) (d : Stroked) (xs : List Stroked) → ((j : ℕ) → j < length xs → Leaves x y (get_or xs j d)) → AllByRecursion (Leaves x y) xs
all_leave x y d [] h = tt
all_leave x y d (a ∷ xs) h = (h 0 (omega arith), all_leave x y d xs (λ j lt. h (suc j) (omega arith)))

sole_at : (x y : ℕ) (d : Stroked) (xs : List Stroked) (i : ℕ) → i < length xs → ((j : ℕ) → j < length xs → j ≢ i → Leaves x y (get_or xs j d)) →
    Sole x y (get_or xs i d) xs
sole_at x y d [] i lt h = absurd (omega arith)
sole_at x y d (a ∷ xs) zero lt h = inl (refl, all_leave x y d xs (λ j k. h (suc j) (omega arith) (λ e. absurd (omega (arith, e)))))
sole_at x y d (a ∷ xs) (suc i) lt h =
    inr (
      h 0 (omega arith) (λ e. absurd (omega (arith, e))),
      sole_at x y d xs i (omega arith) (λ j k n. h (suc j) (omega arith) (λ e. n (omega (arith, e)))),
    )

-- an order has each index once

counted : (i j : ℕ) (order : List ℕ) → count_by (λ k. k == i) (j ∷ order) ≡ (if j == i then 1 else 0) + count_by (λ k. k == i) order
counted i j order = sum_by-cons (λ k. if k == i then 1 else 0) j order

counted_here : (i j : ℕ) (order : List ℕ) → j ≡ i → count_by (λ k. k == i) (j ∷ order) ≡ 1 + count_by (λ k. k == i) order
counted_here i j order e = counted i j order ∙ ap (λ n. n + count_by (λ k. k == i) order) (cond-true _ _ _ (eq-eqb j i e))

counted_elsewhere : (i j : ℕ) (order : List ℕ) → j ≢ i → count_by (λ k. k == i) (j ∷ order) ≡ count_by (λ k. k == i) order
counted_elsewhere i j order n =
    counted i j order ∙ ap (λ n. n + count_by (λ k. k == i) order) (cond-false _ _ _ (ne_eqb j i n))
    ∙ (let z : 0 + count_by (λ k. k == i) order ≡ count_by (λ k. k == i) order = omega arith in z)

none_counted : (i : ℕ) (order : List ℕ) → count_by (λ j. j == i) order ≡ 0 → AllByRecursion (λ j. j ≢ i) order
none_counted i [] e = tt
none_counted i (j ∷ order) e =
    elim (cases_eq j i) [
      | inl here ↦ absurd (omega (arith, counted_here i j order here))
      | inr elsewhere ↦ (elsewhere, none_counted i order (sym (counted_elsewhere i j order elsewhere) ∙ e))
    ]

order_leaves : (x y : ℕ) (d : Stroked) (xs : List Stroked) (i : ℕ) (order : List ℕ) → ((j : ℕ) → j < length xs → j ≢ i → Leaves x y (get_or xs j d))
    → AllByRecursion (λ j. j < length xs) order → AllByRecursion (λ j. j ≢ i) order → AllByRecursion (Leaves x y) (in_order xs d order)
order_leaves x y d xs i [] h b n = tt
order_leaves x y d xs i (j ∷ order) h b n = (h j b.0 n.0, order_leaves x y d xs i order h b.1 n.1)

order_sole : (x y : ℕ) (d : Stroked) (xs : List Stroked) (i : ℕ) (order : List ℕ) → ((j : ℕ) → j < length xs → j ≢ i → Leaves x y (get_or xs j d))
    → AllByRecursion (λ j. j < length xs) order → count_by (λ j. j == i) order ≡ 1 → Sole x y (get_or xs i d) (in_order xs d order)
order_sole x y d xs i [] h b n = absurd (omega arith)
order_sole x y d xs i (j ∷ order) h b n =
    elim (cases_eq j i) [
      | inl here ↦
          inl (
            ap (λ k. get_or xs k d) here,
            order_leaves x y d xs i order h b.1 (none_counted i order (let c = counted_here i j order here in omega arith)),
          )
      | inr elsewhere ↦ inr (h j b.0 elsewhere, order_sole x y d xs i order h b.1 (sym (counted_elsewhere i j order elsewhere) ∙ n))
    ]

order_none : (x y : ℕ) (d : Stroked) (xs : List Stroked) (order : List ℕ) → ((j : ℕ) → j < length xs → Leaves x y (get_or xs j d))
    → AllByRecursion (λ j. j < length xs) order → AllByRecursion (Leaves x y) (in_order xs d order)
order_none x y d xs [] h b = tt
order_none x y d xs (j ∷ order) h b = (h j b.0, order_none x y d xs order h b.1)

-- the thing that covers a position

record Owner (x y : ℕ) (d : Stroked) (xs : List Stroked) : Type 0 where
  place : ℕ
  within : place < length xs
  covers : (get_or xs place d).region x y ≡ true

pub either : (b : Bool) → (b ≡ true) ⊎ (b ≡ false)
either true = inl refl
either false = inr refl

pub other_false : (a b : Bool) → (a && b) ≡ false → a ≡ true → b ≡ false
other_false true b e h = e
other_false false b e h = cc

other_true : (a b : Bool) → (a && b) ≡ false → b ≡ true → a ≡ false
other_true true b e h = absurd (let k = e in cc)
other_true false b e h = refl

free_more : (x y : ℕ) (d a : Stroked) (xs : List Stroked) → a.region x y ≡ false → ((j : ℕ) → j < length xs → (get_or xs j d).region x y ≡ false)
    → (j : ℕ) → j < length (a ∷ xs) → (get_or (a ∷ xs) j d).region x y ≡ false
free_more x y d a xs free none zero lt = free
free_more x y d a xs free none (suc j) lt = none j (omega arith)

owner : (x y : ℕ) (d : Stroked) (xs : List Stroked) → Owner x y d xs ⊎ ((j : ℕ) → j < length xs → (get_or xs j d).region x y ≡ false)
owner x y d [] = inr (λ j lt. absurd (omega arith))
owner x y d (a ∷ xs) =
    elim (either (a.region x y)) [
      | inl covers ↦ inl (record { place = 0; within = omega arith; covers = covers })
      | inr free ↦ elim (owner x y d xs) [
        | inl o ↦ (let lt = o.within in inl (record { place = suc o.place; within = omega arith; covers = o.covers }))
        | inr none ↦ inr (free_more x y d a xs free none)
      ]
    ]

-- nothing but that thing covers the position
apart_from : (x y : ℕ) (d : Stroked) (xs : List Stroked) (i j : ℕ) → KeepApart xs → i < length xs → j < length xs → (get_or xs i d).region x y
    ≡ true → j ≢ i → (get_or xs j d).region x y ≡ false
apart_from x y d xs i j disjoint lt k covers n =
    elim (cases_lt i j) [
      | inl less ↦ other_false _ _ (disjoint.apart i j d less k x y) covers
      | inr ge ↦ other_true _ _ (disjoint.apart j i d (omega (arith, n)) lt x y) covers
    ]

leaves_at : (x y : ℕ) (d : Stroked) (xs : List Stroked) (j : ℕ) → KeepApart xs → j < length xs → (get_or xs j d).region x y
    ≡ false → Leaves x y (get_or xs j d)
leaves_at x y d xs j disjoint lt out = λ c. (All-get_or (λ (a : Stroked). StayIn a.region a.layers) xs j d lt disjoint.stay).cell x y out c

-- replacing a thing that does not change a position by another one that does not
set_leaves : (x y : ℕ) (d a : Stroked) (xs : List Stroked) (i : ℕ) (c : Look) → i < length xs → Leaves x y (get_or xs i d) → Leaves x y a →
    layers_at (all_layers (set xs i a)) x y c ≡ layers_at (all_layers xs) x y c
set_leaves x y d a [] i c lt old new = refl
set_leaves x y d a (b ∷ xs) zero c lt old new =
    layers_at-append a.layers (all_layers xs) x y c ∙ ap (layers_at (all_layers xs) x y) (new c ∙ sym (old c))
    ∙ sym (layers_at-append b.layers (all_layers xs) x y c)
set_leaves x y d a (b ∷ xs) (suc i) c lt old new =
    layers_at-append b.layers (all_layers (set xs i a)) x y c ∙ set_leaves x y d a xs i (layers_at b.layers x y c) (omega arith) old new
    ∙ sym (layers_at-append b.layers (all_layers xs) x y c)

pub any_order : (xs : List Stroked) (d : Stroked) (order : List ℕ) → KeepApart xs → IsOrder (length xs) order →
    (x y : ℕ) (c : Look) → layers_at (all_layers (in_order xs d order)) x y c ≡ layers_at (all_layers xs) x y c
any_order xs d order disjoint is x y c =
    let below = recursion_from_All (λ i. i < length xs) order is.below in
    elim (owner x y d xs) [
      | inl o ↦
          (let lt = o.within in
          let others : (j : ℕ) → j < length xs → j ≢ o.place →
          Leaves x y (get_or xs j d) = λ j k n. leaves_at x y d xs j disjoint k (apart_from x y d xs o.place j disjoint lt k o.covers n) in
          one_seen x y (get_or xs o.place d) (in_order xs d order) c (order_sole x y d xs o.place order others below (is.once o.place lt))
          ∙ sym (one_seen x y (get_or xs o.place d) xs c (sole_at x y d xs o.place lt others)))
      | inr none ↦
          (let each : (j : ℕ) → j < length xs → Leaves x y (get_or xs j d) = λ j k. leaves_at x y d xs j disjoint k (none j k) in
          none_seen x y (in_order xs d order) c (order_none x y d xs order each below) ∙ sym (none_seen x y xs c (all_leave x y d xs each)))
    ]

-- one of the things is replaced by another one with the same region: in the region only the new strokes are visible,
-- and elsewhere everything is unchanged
pub other_at : (xs : List Stroked) (i : ℕ) (a d : Stroked) → i < length xs → KeepApart xs → StayIn a.region a.layers →
    ((x y : ℕ) → a.region x y ≡ (slice_index_or xs i d).region x y) →
    (x y : ℕ) (c : Look) → layers_at (all_layers (slice_set xs i a)) x y c
    ≡ (if a.region x y then layers_at a.layers x y c else layers_at (all_layers xs) x y c)
other_at xs i a d lt disjoint stay same x y c =
    let n : i < length (set xs i a) = omega (arith, length-set xs i a) in
    let here : get_or (set xs i a) i d ≡ a = get_or-set_same xs i a d lt in
    elim (either (a.region x y)) [
      | inl covers ↦
          (let others : (j : ℕ) → j < length (set xs i a) → j ≢ i → Leaves x y (get_or (set xs i a) j d) =
          λ j k e. (let k' : j < length xs = omega (arith, length-set xs i a) in
          subst (Leaves x y) (sym (get_or-set_other xs i j a d e))
          (leaves_at x y d xs j disjoint k' (apart_from x y d xs i j disjoint lt k' (sym (same x y) ∙ covers) e))) in
          one_seen x y a (set xs i a) c (subst (λ (b : Stroked). Sole x y b (set xs i a)) here (sole_at x y d (set xs i a) i n others))
          ∙ sym (cond-true (a.region x y) (layers_at a.layers x y c) (layers_at (all_layers xs) x y c) covers))
      | inr out ↦
          set_leaves x y d a xs i c lt (leaves_at x y d xs i disjoint lt (sym (same x y) ∙ out)) (λ k. stay.cell x y out k)
          ∙ sym (cond-false (a.region x y) (layers_at a.layers x y c) (layers_at (all_layers xs) x y c) out)
    ]
