use Rattle.std.proofs.Common.{◌≡◌, ◌-◌, take}
use Rattle.std.specs.List.{sum_by}
use Rattle.tui_layout.specs.Constraint.{requested_width}
use Rattle.tui_layout.proofs.plan.rest_of.Given as goal

abbrev pub invariant-loop-constraint : goal.invariant-loop-constraint
invariant-loop-constraint l = l.left ≡ l.space - sum_by (requested_width l.length) (take l.constraint-index l.constraints)
