use Rattle.std.proofs.Common.{◌≡◌, ◌+◌, ◌*◌, drop}
use Rattle.serde_json.specs.View.{items_view}
use Rattle.tui_panes_run.specs.Counts.{counts_data}
use Rattle.tui_panes_run.specs.Faults.{pane_fault, parts_fault}
use Rattle.tui_panes_run.specs.Tree.{pane_in}
use Rattle.tui_panes_run.proofs.faults.+faults.Given as goal

abbrev pub decreases-pane_fault : goal.decreases-pane_fault
decreases-pane_fault l = 5 * l.room + 2

abbrev pub decreases-split_fault : goal.decreases-split_fault
decreases-split_fault l = 5 * l.room + 1

abbrev pub decreases-below_fault : goal.decreases-below_fault
decreases-below_fault l = 5 * l.room

abbrev pub decreases-parts_fault : goal.decreases-parts_fault
decreases-parts_fault l = 5 * l.room + 4

abbrev pub decreases-part_fault : goal.decreases-part_fault
decreases-part_fault l = 5 * l.room + 3

-- no part so far has a fault
abbrev pub invariant-parts_fault-parts : goal.invariant-parts_fault-parts
invariant-parts_fault-parts l =
    parts_fault (pane_in l.room) (pane_fault l.room) l.number l.index (counts_data l.at) (items_view (drop l.index l.values))
    ≡ parts_fault (pane_in l.room) (pane_fault l.room) l.number 0 (counts_data l.fn.counts) (items_view l.values)
