use Rattle.std.proofs.Common.{◌≡◌, drop}
use Rattle.serde_json.specs.View.{items_view}
use Rattle.tui_panes_run.specs.Faults.{each_change_fault}
use Rattle.tui_panes_run.proofs.faults.each_change_fault.Given as goal

-- no change so far has a fault
abbrev pub invariant-changes : goal.invariant-changes
invariant-changes l =
    each_change_fault l.counts.leaves l.index (items_view (drop l.index l.values)) ≡ each_change_fault l.counts.leaves 0 (items_view l.values)
