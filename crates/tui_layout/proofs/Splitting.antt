-- What `split` returns.
use Rattle.std.proofs.Common.{◌≡◌, ℕ, List, sym, ap, subst, ◌∙◌, Result, Ok, Err, Vec, Global}
use Rattle.std.specs.Prelude.{IfOk}
use Rattle.std.specs.List.{sum_by}
use Rattle.tui_cells.specs.declared.memory.NoMemory.{NoMemory}
use Rattle.tui_layout.specs.Columns.{AreInOrder, RestIsShared, columns_in, columns_of, plan_of, space_of}
use Rattle.tui_layout.specs.declared.constraint.Constraint.{Constraint}
use Rattle.tui_layout.specs.declared.flex.Flex.{Flex}
use Rattle.tui_layout.specs.declared.plan.ColumnPlan.{ColumnPlan}
use Rattle.tui_layout.specs.declared.segment.Segment.{Segment}
use Rattle.tui_layout.proofs.Order.{in_order, planned}
use Rattle.tui_layout.proofs.Wholes.{columns_whole}

pub columns_in_order : (size spacing : ℕ) (cs : List Constraint) (flex : Flex) → AreInOrder size spacing (columns_of size spacing cs flex)
unfolding columns_of
columns_in_order size spacing cs flex = in_order (plan_of size spacing cs flex) cs (planned size spacing cs flex)

pub columns_are_whole : (size spacing : ℕ) (cs : List Constraint) (flex : Flex) → RestIsShared cs flex
    → sum_by (λ (s : Segment). s.width) (columns_of size spacing cs flex) ≡ space_of size spacing cs
unfolding columns_of
columns_are_whole size spacing cs flex shared = columns_whole size spacing cs flex shared

columns_are : (size spacing : ℕ) (cs : List Constraint) (flex : Flex) (plan : ColumnPlan) (columns : List Segment) → plan ≡ plan_of size spacing cs flex
    → columns ≡ columns_in plan cs → columns ≡ columns_of size spacing cs flex
unfolding columns_of
columns_are size spacing cs flex plan columns e f = f ∙ ap (λ (p : ColumnPlan). columns_in p cs) e

pub split_is : (r : Result (Vec Segment Global) NoMemory) (size spacing : ℕ) (cs : List Constraint) (flex : Flex) (plan : ColumnPlan)
    → plan ≡ plan_of size spacing cs flex → IfOk r (λ columns. columns.items ≡ columns_in plan cs)
    → IfOk r (λ columns. columns.items ≡ columns_of size spacing cs flex) × IfOk r (λ columns. AreInOrder size spacing columns.items)
    × (RestIsShared cs flex → IfOk r (λ columns. sum_by (λ (s : Segment). s.width) columns.items ≡ space_of size spacing cs))
split_is (Ok columns) size spacing cs flex plan e f =
    let is = columns_are size spacing cs flex plan columns.items e f in
    let P : List Segment → Type 0 = λ s. AreInOrder size spacing s in (
      is,
      subst P (sym is) (columns_in_order size spacing cs flex),
      λ shared. ap (sum_by (λ (s : Segment). s.width)) is ∙ columns_are_whole size spacing cs flex shared,
    )
split_is (Err error) size spacing cs flex plan e f = (f, f, λ shared. f)
