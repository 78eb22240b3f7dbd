use Rattle.std.proofs.Common.{◌≡◌, length, map}
use Rattle.std.specs.Vec.Iter.{into_iter_items, into_iter_len}
use Rattle.tui_panes_run.specs.Changes.{change_data}
use Rattle.tui_panes_run.proofs.Changing.{AreBelow, ChangesGoOn}
use Rattle.tui_panes_run.proofs.screen.change_each.Given as goal

-- the changes so far are made, and the rest lead to what all lead to
abbrev pub invariant-changes : goal.invariant-changes
invariant-changes l =
    ChangesGoOn l.initial.panes.leaves l.initial.buffer (map change_data (into_iter_items l.initial.change-iterator)) l.panes.leaves l.buffer
    (map change_data (into_iter_items l.change-iterator))
    × AreBelow l.panes.leaves (map change_data (into_iter_items l.change-iterator))
    × (into_iter_len l.change-iterator ≡ length (into_iter_items l.change-iterator))
