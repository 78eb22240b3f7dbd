-- Columns lie inside the length, in order and without overlap.
use Rattle.std.proofs.Common.{◌≡◌, ℕ, zero, suc, ◌+◌, ◌-◌, ◌*◌, ◌/◌, ◌<◌, ◌≤◌, ◌==◌, ◌⊎◌, min, true, false, if◌then◌else◌, List, length, get_or, take, refl, sym, ap, subst, inl, inr, ◌∙◌, arith, sum}
use Rattle.std.proofs.Math.Nat.{div-le_self, mul-le-mul_left, mul_comm}
use Rattle.std.proofs.lemmas.Bool.{cases_lt}
use Rattle.std.proofs.lemmas.Bool.Decides.{nat_tests}
use Rattle.std.proofs.lemmas.Grind.{common_steps}
use Rattle.std.proofs.lemmas.List.Sums.{sum_by-take-le, sum_by_more}
use Rattle.std.specs.List.{sum_by}
use Rattle.tui_layout.specs.Constraint.{requested_width}
use Rattle.tui_layout.specs.Sharing.{weight}
use Rattle.tui_layout.specs.Columns.{AreInOrder, IsBefore, column_at, columns_in, last_share, flex_shift, part, plan_of, share, shift, width_at, widths_of}
use Rattle.tui_layout.specs.declared.constraint.Constraint.{Constraint}
use Rattle.tui_layout.specs.declared.constraint.Constraint.TheVariants.{Length}
use Rattle.tui_layout.specs.declared.flex.Flex.{Flex}
use Rattle.tui_layout.specs.declared.flex.Flex.TheVariants.{Center, End, Legacy, SpaceAround, SpaceBetween, SpaceEvenly, Start}
use Rattle.tui_layout.specs.declared.plan.ColumnPlan.{ColumnPlan}
use Rattle.tui_layout.specs.declared.segment.Segment.{Segment}
use Rattle.tui_layout.proofs.Totals.{prefix_sum_grows}
use Rattle.tui_layout.proofs.Shares.{share_grows, share_small}
use Rattle.tui_layout.proofs.Placing.{length-made, made_at}

-- how much of the rest goes to columns that have these weights together
unfoldable pub given : ColumnPlan → ℕ → ℕ
given plan weights = if plan.weights == 0 then 0 else part plan weights

pub zero_test : (n : ℕ) → ((n == 0) ≡ true) × (n ≡ 0) ⊎ ((n == 0) ≡ false) × (0 < n)
zero_test zero = inl (refl, refl)
zero_test (suc n) = inr (grind (arith, nat_tests), omega arith)

moves_small : (flex : Flex) (plan : ColumnPlan) (i : ℕ) → i < plan.count → last_share flex plan i + flex_shift flex plan i ≤ plan.rest
moves_small Legacy plan i h = grind (arith, common_steps)
moves_small Start plan i h = omega arith
moves_small End plan i h = omega arith
moves_small Center plan i h = omega (arith, div-le_self plan.rest 2)
moves_small SpaceBetween plan i h = grind (arith, common_steps, share_small plan.rest i (plan.count - 1) (omega arith))
moves_small SpaceEvenly plan i h = omega (arith, share_small plan.rest (i + 1) (plan.count + 1) (omega arith))
moves_small SpaceAround plan i h = omega (arith, share_small plan.rest (2 * i + 1) (2 * plan.count) (omega arith))

between_grows : (rest i j count : ℕ) → i ≤ j → j < count
    → (if count == 1 then 0 else rest * i / (count - 1)) ≤ (if count == 1 then 0 else rest * j / (count - 1))
between_grows rest i j count le h = elim (cases_lt 1 count) [
  | inl lt ↦ grind (arith, common_steps, share_grows rest i j (count - 1) (omega arith) le)
  | inr one ↦ grind (arith, common_steps)
]

moves_grow : (flex : Flex) (plan : ColumnPlan) (i j : ℕ) → i ≤ j → j < plan.count → flex_shift flex plan i ≤ flex_shift flex plan j
moves_grow Legacy plan i j le h = omega arith
moves_grow Start plan i j le h = omega arith
moves_grow End plan i j le h = omega arith
moves_grow Center plan i j le h = omega arith
moves_grow SpaceBetween plan i j le h = between_grows plan.rest i j plan.count le h
moves_grow SpaceEvenly plan i j le h = share_grows plan.rest (i + 1) (j + 1) (plan.count + 1) (omega arith) (omega arith)
moves_grow SpaceAround plan i j le h = share_grows plan.rest (2 * i + 1) (2 * j + 1) (2 * plan.count) (omega arith) (omega arith)

not_last : (flex : Flex) (plan : ColumnPlan) (i : ℕ) → i + 1 < plan.count → last_share flex plan i ≡ 0
not_last Legacy plan i h = grind (arith, common_steps)
not_last Start plan i h = refl
not_last End plan i h = refl
not_last Center plan i h = refl
not_last SpaceBetween plan i h = refl
not_last SpaceEvenly plan i h = refl
not_last SpaceAround plan i h = refl

parts_small : (plan : ColumnPlan) (i before w : ℕ) → i < plan.count → before + w ≤ plan.weights → given plan before + share plan i before w + shift plan i ≤ plan.rest
unfolding given share shift
parts_small plan i before w h le = elim (zero_test plan.weights) [
  | inl z ↦ rw z.0 (omega (arith, moves_small plan.flex plan i h))
  | inr p ↦ rw p.0 (omega (arith, share_small plan.rest (before + w) plan.weights le, share_grows plan.rest before (before + w) plan.weights p.1 (omega arith)))
]

shift_grows : (plan : ColumnPlan) (i j : ℕ) → i ≤ j → j < plan.count → shift plan i ≤ shift plan j
unfolding shift
shift_grows plan i j le h = elim (zero_test plan.weights) [
  | inl z ↦ rw z.0 (moves_grow plan.flex plan i j le h)
  | inr p ↦ rw p.0 (omega arith)
]

given_next : (plan : ColumnPlan) (i before w : ℕ) → i + 1 < plan.count → given plan before + share plan i before w ≡ given plan (before + w)
unfolding given share
given_next plan i before w h = elim (zero_test plan.weights) [
  | inl z ↦ rw z.0 (omega (arith, not_last plan.flex plan i h))
  | inr p ↦ rw p.0 (omega (arith, share_grows plan.rest before (before + w) plan.weights p.1 (omega arith)))
]

given_none : (plan : ColumnPlan) → given plan 0 ≡ 0
unfolding given
given_none plan = elim (zero_test plan.weights) [
  | inl z ↦ rw z.0 refl
  | inr p ↦ rw p.0 (omega (arith, share_small 0 0 plan.weights (omega arith)))
]

-- what a plan says of its constraints
pub record IsPlanned (plan : ColumnPlan) (cs : List Constraint) : Type 0 where
  pub count : plan.count ≡ length cs
  pub space : plan.space ≡ plan.length - plan.spacing * (plan.count - 1)
  pub rest : plan.rest ≡ plan.space - sum_by (requested_width plan.length) cs
  pub weighs : plan.weights ≡ sum_by (weight plan.sharing) cs

pub planned : (size spacing : ℕ) (cs : List Constraint) (flex : Flex) → IsPlanned (plan_of size spacing cs flex) cs
planned size spacing cs flex = record { count = refl; space = refl; rest = refl; weighs = refl }

-- what the first i columns leave, weigh, and take
abbrev pub left_at : ColumnPlan → List Constraint → ℕ → ℕ
left_at plan cs i = plan.space - sum_by (requested_width plan.length) (take i cs)

abbrev pub weight_before : ColumnPlan → List Constraint → ℕ → ℕ
weight_before plan cs i = sum_by (weight plan.sharing) (take i cs)

abbrev pub width_before : ColumnPlan → List Constraint → ℕ → ℕ
width_before plan cs i = sum (take i (widths_of plan cs))

-- the next column
pub record IsNext (plan : ColumnPlan) (cs : List Constraint) (i took w got : ℕ) : Type 0 where
  pub left : left_at plan cs (i + 1) ≡ left_at plan cs i - took
  pub small : took ≤ left_at plan cs i
  pub weighs : weight_before plan cs (i + 1) ≡ weight_before plan cs i + w
  pub widths : width_before plan cs (i + 1) ≡ width_before plan cs i + (took + got)
  pub heavy : weight_before plan cs i + w ≤ plan.weights
  pub rest : plan.rest ≤ left_at plan cs i - took

abbrev pub took_at : ColumnPlan → List Constraint → ℕ → Constraint → ℕ
took_at plan cs i c = min (requested_width plan.length c) (left_at plan cs i)

abbrev pub got_at : ColumnPlan → List Constraint → ℕ → Constraint → ℕ
got_at plan cs i c = share plan i (weight_before plan cs i) (weight plan.sharing c)

pub next_at : (plan : ColumnPlan) (cs : List Constraint) (i : ℕ) (c : Constraint) → IsPlanned plan cs → i < length cs → c ≡ get_or cs i (Length 0)
    → IsNext plan cs i (took_at plan cs i c) (weight plan.sharing c) (got_at plan cs i c)
next_at plan cs i c p h read =
    let wants : sum_by (requested_width plan.length) (take (i + 1) cs) ≡ sum_by (requested_width plan.length) (take i cs) + requested_width plan.length c =
    sum_by_more (requested_width plan.length) cs i (Length 0) h ∙ ap (λ k. sum_by (requested_width plan.length) (take i cs) + requested_width plan.length k) (sym read) in
    let weighs : weight_before plan cs (i + 1) ≡ weight_before plan cs i + weight plan.sharing c =
    sum_by_more (weight plan.sharing) cs i (Length 0) h ∙ ap (λ k. weight_before plan cs i + weight plan.sharing k) (sym read) in
    let widths : width_before plan cs (i + 1) ≡ width_before plan cs i + width_at plan cs i c =
    sum_by_more (λ (y : ℕ). y) (widths_of plan cs) i 0 (omega (arith, length-made (width_at plan cs) cs)) ∙
    ap (λ y. width_before plan cs i + y) (made_at (width_at plan cs) cs i c (Length 0) 0 h read) in
    record {
      left = omega (arith, wants);
      small = omega arith;
      weighs = weighs;
      widths = widths;
      heavy = omega (arith, weighs, p.weighs, sum_by-take-le (weight plan.sharing) cs (i + 1));
      rest = omega (arith, wants, p.rest, sum_by-take-le (requested_width plan.length) cs (i + 1));
    }

-- The widths before a column are what those columns took and were given.
pub edge : (plan : ColumnPlan) (cs : List Constraint) → IsPlanned plan cs → (i : ℕ) → i < length cs
    → width_before plan cs i + left_at plan cs i ≡ plan.space + given plan (weight_before plan cs i)
edge plan cs p zero h = omega (arith, given_none plan)
edge plan cs p (suc i) h =
    let c = get_or cs i (Length 0) in
    let n = next_at plan cs i c p (omega arith) refl in
    let before = edge plan cs p i (omega arith) in
    let more = given_next plan i (weight_before plan cs i) (weight plan.sharing c) (omega (arith, p.count)) in
    let one : i + 1 ≡ suc i = omega arith in
    let P : ℕ → Type 0 = λ k. width_before plan cs k + left_at plan cs k ≡ plan.space + given plan (weight_before plan cs k) in
    subst P one (omega (arith, before, more, n.left, n.small, n.widths, ap (given plan) n.weighs))

-- a column moved by its shift ends in the space
end_small : (plan : ColumnPlan) (cs : List Constraint) → IsPlanned plan cs → (i : ℕ) → i < length cs → width_before plan cs (i + 1) + shift plan i ≤ plan.space
end_small plan cs p i h =
    let c = get_or cs i (Length 0) in
    let n = next_at plan cs i c p h refl in
    omega (
      arith,
      edge plan cs p i h,
      n.left,
      n.small,
      n.widths,
      n.rest,
      parts_small plan i (weight_before plan cs i) (weight plan.sharing c) (omega (arith, p.count)) n.heavy,
    )

abbrev start_at : ColumnPlan → List Constraint → ℕ → ℕ
start_at plan cs i = width_before plan cs i + i * plan.spacing + shift plan i

-- before it is cut, a column ends in the length, or it has no width
pub inside : (plan : ColumnPlan) (cs : List Constraint) (i : ℕ) (c : Constraint) → IsPlanned plan cs → i < length cs → c ≡ get_or cs i (Length 0)
    → (width_at plan cs i c ≡ 0) ⊎ (start_at plan cs i + width_at plan cs i c ≤ plan.length)
inside plan cs i c p h read =
    let n = next_at plan cs i c p h read in
    let small = end_small plan cs p i h in
    let le : i ≤ plan.count - 1 = omega (arith, p.count) in
    let gaps = mul-le-mul_left plan.spacing le in
    elim (cases_lt 0 plan.space) [
      | inl lt ↦ inr (omega (arith, n.widths, small, gaps, mul_comm i plan.spacing, p.space))
      | inr none ↦ inl (omega (arith, n.widths, small))
    ]

before_at : (plan : ColumnPlan) (cs : List Constraint) (i j : ℕ) (a b : Constraint) → IsPlanned plan cs → i < j → j < length cs → a ≡ get_or cs i (Length 0)
    → b ≡ get_or cs j (Length 0) → IsBefore plan.spacing (column_at plan cs i a) (column_at plan cs j b)
before_at plan cs i j a b p lt h read also =
    let n = next_at plan cs i a p (omega arith) read in
    let grows = prefix_sum_grows (widths_of plan cs) (i + 1) j (omega arith) in
    let le : i + 1 ≤ j = omega arith in
    let gaps = mul-le-mul_left plan.spacing le in
    let gap : i * plan.spacing + plan.spacing ≤ j * plan.spacing =
    omega (arith, gaps, mul_comm i plan.spacing, mul_comm j plan.spacing) in
    let shifts = shift_grows plan i j (omega arith) (omega (arith, p.count)) in
    let here = inside plan cs i a p (omega arith) read in
    let there = inside plan cs j b p h also in
    record {
      apart = elim here [
        | inl z ↦ omega (arith, z, n.widths, grows, gap, shifts)
        | inr e ↦ omega (arith, e, n.widths, grows, gap, shifts)
      ];
      spaced = λ some other. elim here [
        | inl z ↦ absurd (omega (arith, z, some))
        | inr e ↦ elim there [
          | inl z ↦ absurd (omega (arith, z, other))
          | inr f ↦ omega (arith, e, f, n.widths, grows, gap, shifts)
        ]
      ];
    }

within_at : (plan : ColumnPlan) (cs : List Constraint) (i : ℕ) (c : Constraint) → IsPlanned plan cs → i < length cs → c ≡ get_or cs i (Length 0)
    → (column_at plan cs i c).start + (column_at plan cs i c).width ≤ plan.length
within_at plan cs i c p h read = elim (inside plan cs i c p h read) [ inl z ↦ omega (arith, z) | inr e ↦ omega (arith, e) ]

column_is : (plan : ColumnPlan) (cs : List Constraint) (i : ℕ) (d : Segment) → i < length cs
    → column_at plan cs i (get_or cs i (Length 0)) ≡ get_or (columns_in plan cs) i d
column_is plan cs i d h = sym (made_at (column_at plan cs) cs i (get_or cs i (Length 0)) (Length 0) d h refl)

pub in_order : (plan : ColumnPlan) (cs : List Constraint) → IsPlanned plan cs → AreInOrder plan.length plan.spacing (columns_in plan cs)
in_order plan cs p =
    let count = length-made (column_at plan cs) cs in
    record {
      inside = λ i d h.
          let n : i < length cs = omega (arith, h, count) in
          let P : Segment → Type 0 = λ s. s.start + s.width ≤ plan.length in
          subst P (column_is plan cs i d n) (within_at plan cs i (get_or cs i (Length 0)) p n refl);
      order = λ i j d lt h.
          let n : j < length cs = omega (arith, h, count) in
          let m : i < length cs = omega arith in
          let P : Segment → Type 0 = λ s. IsBefore plan.spacing s (get_or (columns_in plan cs) j d) in
          let Q : Segment → Type 0 = λ s. IsBefore plan.spacing (column_at plan cs i (get_or cs i (Length 0))) s in
          subst P (column_is plan cs i d m)
          (subst Q (column_is plan cs j d n) (before_at plan cs i j (get_or cs i (Length 0)) (get_or cs j (Length 0)) p lt n refl refl));
    }
