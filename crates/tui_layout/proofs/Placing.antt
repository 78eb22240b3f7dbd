-- Columns by their indices.
use Rattle.std.proofs.Common.{◌≡◌, ℕ, ◌+◌, ◌-◌, ◌*◌, ◌^◌, ◌<◌, ◌≤◌, min, List, [], ◌∷◌, ◌++◌, length, get_or, take, map, refl, sym, ap, ◌∙◌, arith, sum}
use Rattle.std.proofs.Math.Nat.{suc-mul}
use Rattle.std.proofs.lemmas.List.{get_or-map, length-map, take_all, take_more}
use Rattle.std.proofs.lemmas.List.FromFn.{get_or-enumerate_from, length-enumerate_from}
use Rattle.std.proofs.lemmas.List.Sums.{sum_by_more}
use Rattle.std.specs.List.{enumerate_from, sum_by}
use Rattle.tui_layout.specs.Constraint.{requested_width}
use Rattle.tui_layout.specs.Sharing.{weight}
use Rattle.tui_layout.specs.Columns.{column_at, columns_in, share, shift, width_at, widths_of}
use Rattle.tui_layout.specs.declared.constraint.Constraint.{Constraint}
use Rattle.tui_layout.specs.declared.plan.ColumnPlan.{ColumnPlan}
use Rattle.tui_layout.specs.declared.segment.Segment.{Segment}

pub length-made : {X : Type 0} (f : ℕ → Constraint → X) (cs : List Constraint) → length (map (λ (i, c). f i c) (enumerate_from 0 cs)) ≡ length cs
length-made f cs = length-map (enumerate_from 0 cs) (λ (i, c). f i c) ∙ length-enumerate_from 0 cs

-- the element at an index is made from the constraint there
pub made_at : {X : Type 0} (f : ℕ → Constraint → X) (cs : List Constraint) (i : ℕ) (c d : Constraint) (e : X) → i < length cs → c ≡ get_or cs i d
    → get_or (map (λ (i, c). f i c) (enumerate_from 0 cs)) i e ≡ f i c
made_at f cs i c d e h read =
    let within : i < length (enumerate_from 0 cs) = omega (arith, length-enumerate_from 0 cs) in
    let place : 0 + i ≡ i = omega arith in
    get_or-map (λ (i, c). f i c) (enumerate_from 0 cs) i (0, d) e within ∙ ap (λ (p : ℕ × Constraint). f p.0 p.1) (get_or-enumerate_from 0 cs i (0, d) h)
    ∙ ap (λ n. f n (get_or cs i d)) place ∙ ap (f i) (sym read)

segment : ℕ → ℕ → Segment
segment start width = record { start = start; width = width }

segment_along : (a b c d : ℕ) → a ≡ c → b ≡ d → segment a b ≡ segment c d
segment_along a b c d e f = cc

pub same_segment : (start width : ℕ) (s : Segment) → start ≡ s.start → width ≡ s.width → record { start = start; width = width } ≡ s
unfolding segment
same_segment start width s e f = segment_along start width s.start s.width e f

-- the first columns are placed, and the code's variables describe the next one
pub record IsPlacing (plan : ColumnPlan) (cs : List Constraint) (i left before at : ℕ) (columns : List Segment) : Type 0 where
  pub placed : columns ≡ take i (columns_in plan cs)
  pub room : left ≡ plan.space - sum_by (requested_width plan.length) (take i cs)
  pub weighs : before ≡ sum_by (weight plan.sharing) (take i cs)
  pub place : at ≡ sum (take i (widths_of plan cs)) + i * plan.spacing
  pub near : at ≤ i * 2 ^ 18

pub width_is : (plan : ColumnPlan) (cs : List Constraint) (i left before : ℕ) (c : Constraint) (took w width : ℕ)
    → left ≡ plan.space - sum_by (requested_width plan.length) (take i cs) → before ≡ sum_by (weight plan.sharing) (take i cs)
    → took ≡ min (requested_width plan.length c) left → w ≡ weight plan.sharing c → width ≡ took + share plan i before w → width ≡ width_at plan cs i c
width_is plan cs i left before c took w width l b t e f = rw (f, t, l, b, e) refl

-- one more column
pub placing_more : (plan : ColumnPlan) (cs : List Constraint) (i left before at : ℕ) (columns : List Segment) (c d : Constraint) (took w width begin wide : ℕ)
    (less more later : ℕ) (next : List Segment) → IsPlacing plan cs i left before at columns → i < length cs → c ≡ get_or cs i d
    → took ≡ min (requested_width plan.length c) left → w ≡ weight plan.sharing c → width ≡ took + share plan i before w
    → begin ≡ min (at + shift plan i) plan.length → wide ≡ min width plan.length
    → less ≡ left - took → more ≡ before + w → later ≡ at + width + plan.spacing → later ≤ at + 2 ^ 18
    → next ≡ columns ++ record { start = begin; width = wide } ∷ []
    → IsPlacing plan cs (i + 1) less more later next
placing_more plan cs i left before at columns c d took w width begin wide less more later next x h read t e f g k l m n near s =
    let own : width ≡ width_at plan cs i c = width_is plan cs i left before c took w width x.room x.weighs t e f in
    let here : record { start = begin; width = wide } ≡ column_at plan cs i c =
    same_segment begin wide (column_at plan cs i c) (omega (arith, g, x.place)) (omega (arith, k, own)) in
    let whole = columns_in plan cs in
    let longer : take (i + 1) whole ≡ take i whole ++ column_at plan cs i c ∷ [] =
    take_more whole i (column_at plan cs i c) (omega (arith, length-made (column_at plan cs) cs)) ∙
    ap (λ y. take i whole ++ y ∷ []) (made_at (column_at plan cs) cs i c d (column_at plan cs i c) h read) in
    let sums : sum (take (i + 1) (widths_of plan cs)) ≡ sum (take i (widths_of plan cs)) + width_at plan cs i c =
    sum_by_more (λ (y : ℕ). y) (widths_of plan cs) i 0 (omega (arith, length-made (width_at plan cs) cs)) ∙
    ap (λ y. sum (take i (widths_of plan cs)) + y) (made_at (width_at plan cs) cs i c d 0 h read) in
    record {
      placed = s ∙ ap (λ ys. columns ++ ys ∷ []) here ∙ ap (λ ys. ys ++ column_at plan cs i c ∷ []) x.placed ∙ sym longer;
      room = omega (arith, l, x.room, t, sum_by_more (requested_width plan.length) cs i d h, ap (requested_width plan.length) read);
      weighs = omega (arith, m, x.weighs, e, sum_by_more (weight plan.sharing) cs i d h, ap (weight plan.sharing) read);
      place = omega (arith, n, x.place, sums, own, suc-mul i plan.spacing);
      near = omega (arith, near, x.near);
    }

pub placing_end : (plan : ColumnPlan) (cs : List Constraint) (i left before at : ℕ) (columns : List Segment) → length cs ≤ i
    → IsPlacing plan cs i left before at columns → columns ≡ columns_in plan cs
placing_end plan cs i left before at columns h x = x.placed ∙ take_all i (columns_in plan cs) (omega (arith, length-made (column_at plan cs) cs))
