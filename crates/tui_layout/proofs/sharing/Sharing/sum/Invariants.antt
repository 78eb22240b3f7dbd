use Rattle.std.proofs.Common.{◌*◌, ◌≡◌, ◌≤◌, take}
use Rattle.std.specs.List.{sum_by}
use Rattle.tui_layout.specs.Sharing.{weight}
use Rattle.tui_layout.proofs.sharing.Sharing.sum.Given as goal

abbrev pub invariant-loop-constraint : goal.invariant-loop-constraint
invariant-loop-constraint l = (l.sum ≡ sum_by (weight l.self) (take l.constraint-index l.constraints)) × (l.sum ≤ l.constraint-index * 65535)
