-- If the rest is shared, the columns take the whole space.
use Rattle.std.proofs.Common.{◌≡◌, ℕ, ◌+◌, ◌-◌, ◌<◌, ◌≤◌, ◌⊎◌, min, Any, List, length, get_or, take, map, refl, sym, ap, subst, inl, inr, ◌∙◌, arith, sum}
use Rattle.std.proofs.Math.Nat.{mul-div_cancel}
use Rattle.std.proofs.lemmas.Grind.{common_steps, same_number_lists}
use Rattle.std.proofs.lemmas.List.{get_or-map, length-map, take_all}
use Rattle.std.proofs.lemmas.List.Sums.{sum-map, sum_by_more_le}
use Rattle.std.specs.List.{sum_by}
use Rattle.tui_layout.specs.Constraint.{requested_width}
use Rattle.tui_layout.specs.Sharing.{sharing_of, weight}
use Rattle.tui_layout.specs.Columns.{RestIsShared, Shares, column_at, columns_in, last_share, part, plan_of, share, space_of, width_at, widths_of}
use Rattle.tui_layout.specs.declared.constraint.Constraint.{Constraint}
use Rattle.tui_layout.specs.declared.constraint.Constraint.TheVariants.{Fill, Length, Max, Min, Percentage, Ratio}
use Rattle.tui_layout.specs.declared.flex.Flex.{Flex}
use Rattle.tui_layout.specs.declared.flex.Flex.TheVariants.{Legacy}
use Rattle.tui_layout.specs.declared.plan.ColumnPlan.{ColumnPlan}
use Rattle.tui_layout.specs.declared.segment.Segment.{Segment}
use Rattle.tui_layout.specs.declared.sharing.Sharing.TheVariants.{Fills, Mins, Weights}
use Rattle.tui_layout.proofs.Shares.{share_grows}
use Rattle.tui_layout.proofs.Placing.{length-made, made_at}
use Rattle.tui_layout.proofs.Order.{IsPlanned, edge, given, inside, next_at, planned, weight_before, zero_test}

-- each constraint that shares the rest has a weight in one of the ways to share it
counts : (c : Constraint) → Shares c → 1 ≤ weight Fills c + weight Mins c
counts (Fill w) s = omega arith
counts (Min w) s = omega arith
counts (Max w) s = absurd s
counts (Length w) s = absurd s
counts (Percentage w) s = absurd s
counts (Ratio a b) s = absurd s

sharing_weighs : (cs : List Constraint) → Any Shares cs → 0 < sum_by (weight (sharing_of cs)) cs
sharing_weighs cs some =
    let one : 1 ≤ weight Fills (get_or cs some.0 some.1) + weight Mins (get_or cs some.0 some.1) =
    (let P : Constraint → Type 0 = λ c. 1 ≤ weight Fills c + weight Mins c in subst P (sym some.3) (counts some.1 some.4)) in
    let fills = sum_by_more_le (weight Fills) cs some.0 some.1 some.2 in
    let mins = sum_by_more_le (weight Mins) cs some.0 some.1 some.2 in
    elim (zero_test (sum_by (weight Weights) cs)) [
      | inl z ↦ elim (zero_test (sum_by (weight Fills) cs)) [
        | inl y ↦ rw (z.0, y.0) (omega (arith, one, fills, mins, y.1))
        | inr p ↦ rw (z.0, p.0) p.1
      ]
      | inr p ↦ rw p.0 p.1
    ]

-- the last column gets what the others were not given
last_weighs : (plan : ColumnPlan) (i before w : ℕ) → 0 < plan.weights → before + w ≡ plan.weights → given plan before + share plan i before w ≡ plan.rest
unfolding given share
last_weighs plan i before w some all = elim (zero_test plan.weights) [
  | inl z ↦ absurd (omega (arith, z.1))
  | inr p ↦
      rw p.0
      (omega (
        arith,
        ap (part plan) all,
        mul-div_cancel plan.rest {n = plan.weights} some,
        share_grows plan.rest before (before + w) plan.weights some (omega arith),
      ))
]

last_legacy : (plan : ColumnPlan) (i before w : ℕ) → plan.weights ≡ 0 → plan.flex ≡ Legacy → i + 1 ≡ plan.count
    → given plan before + share plan i before w ≡ plan.rest
unfolding given share
last_legacy plan i before w none legacy last = elim (zero_test plan.weights) [
  | inl z ↦
      let e : last_share plan.flex plan i ≡ last_share Legacy plan i = ap (λ f. last_share f plan i) legacy in
      let f : last_share Legacy plan i ≡ plan.rest = grind (arith, common_steps) in
      rw z.0 (omega (arith, e, f))
  | inr p ↦ absurd (omega (arith, p.1))
]

last_given : (plan : ColumnPlan) (cs : List Constraint) (i before w : ℕ) → IsPlanned plan cs → (0 < plan.weights) ⊎ (plan.flex ≡ Legacy) → i + 1 ≡ length cs
    → before + w ≡ plan.weights → given plan before + share plan i before w ≡ plan.rest
last_given plan cs i before w p shared last all = elim (zero_test plan.weights) [
  | inl z ↦ elim shared [
    | inl some ↦ absurd (omega (arith, z.1))
    | inr legacy ↦ last_legacy plan i before w z.1 legacy (omega (arith, p.count))
  ]
  | inr some ↦ last_weighs plan i before w some.1 all
]

widths_whole : (plan : ColumnPlan) (cs : List Constraint) → IsPlanned plan cs → (0 < plan.weights) ⊎ (plan.flex ≡ Legacy) → 0 < length cs
    → sum (widths_of plan cs) ≡ plan.space
widths_whole plan cs p shared some =
    let i = length cs - 1 in
    let c = get_or cs i (Length 0) in
    let last : i + 1 ≡ length cs = omega arith in
    let n = next_at plan cs i c p (omega arith) refl in
    let all : take (i + 1) cs ≡ cs = take_all (i + 1) cs (omega arith) in
    let whole : take (i + 1) (widths_of plan cs) ≡ widths_of plan cs =
    take_all (i + 1) (widths_of plan cs) (omega (arith, length-made (width_at plan cs) cs)) in
    let weighs : weight_before plan cs i + weight plan.sharing c ≡ plan.weights =
    omega (arith, n.weighs, ap (sum_by (weight plan.sharing)) all, p.weighs) in
    let wants = ap (sum_by (requested_width plan.length)) all in
    omega (
      arith,
      edge plan cs p i (omega arith),
      n.left,
      n.small,
      n.widths,
      ap sum whole,
      wants,
      p.rest,
      last_given plan cs i (weight_before plan cs i) (weight plan.sharing c) p shared last weighs,
    )

-- no width is cut
uncut : (plan : ColumnPlan) (cs : List Constraint) (k : ℕ) → IsPlanned plan cs → k < length cs
    → get_or (map (λ (s : Segment). s.width) (columns_in plan cs)) k 0 ≡ get_or (widths_of plan cs) k 0
uncut plan cs k p h =
    let c = get_or cs k (Length 0) in
    let n : k < length (columns_in plan cs) = omega (arith, length-made (column_at plan cs) cs) in
    let wide : min (width_at plan cs k c) plan.length ≡ width_at plan cs k c =
    elim (inside plan cs k c p h refl) [ inl z ↦ omega (arith, z) | inr e ↦ omega (arith, e) ] in
    get_or-map (λ (s : Segment). s.width) (columns_in plan cs) k (column_at plan cs k c) 0 n ∙
    ap (λ (s : Segment). s.width) (made_at (column_at plan cs) cs k c (Length 0) (column_at plan cs k c) h refl) ∙
    wide ∙ sym (made_at (width_at plan cs) cs k c (Length 0) 0 h refl)

sum_uncut : (plan : ColumnPlan) (cs : List Constraint) → IsPlanned plan cs → sum_by (λ (s : Segment). s.width) (columns_in plan cs) ≡ sum (widths_of plan cs)
sum_uncut plan cs p =
    let many = length-made (column_at plan cs) cs in
    let count : length (map (λ (s : Segment). s.width) (columns_in plan cs)) ≡ length cs =
    length-map (columns_in plan cs) (λ (s : Segment). s.width) ∙ many in
    sym (sum-map (λ (s : Segment). s.width) (columns_in plan cs)) ∙
    ap sum
    (same_number_lists (map (λ (s : Segment). s.width) (columns_in plan cs)) (widths_of plan cs) (omega (arith, count, length-made (width_at plan cs) cs))
    (λ k h. uncut plan cs k p (omega (arith, count))))

shared_weighs : (size spacing : ℕ) (cs : List Constraint) (flex : Flex) → RestIsShared cs flex → (0 < (plan_of size spacing cs flex).weights) ⊎ (flex ≡ Legacy)
shared_weighs size spacing cs flex shared = elim shared [ inl some ↦ inl (sharing_weighs cs some) | inr legacy ↦ inr legacy.0 ]

some_column : (cs : List Constraint) (flex : Flex) → RestIsShared cs flex → 0 < length cs
some_column cs flex shared = elim shared [ inl some ↦ omega (arith, some.2) | inr legacy ↦ legacy.1 ]

pub columns_whole : (size spacing : ℕ) (cs : List Constraint) (flex : Flex) → RestIsShared cs flex
    → sum_by (λ (s : Segment). s.width) (columns_in (plan_of size spacing cs flex) cs) ≡ space_of size spacing cs
columns_whole size spacing cs flex shared =
    let plan = plan_of size spacing cs flex in
    let p = planned size spacing cs flex in
    sum_uncut plan cs p ∙ widths_whole plan cs p (shared_weighs size spacing cs flex shared) (some_column cs flex shared)
