use Rattle.std.proofs.Common.{◌≡◌, ◌+◌, ◌*◌, drop}
use Rattle.serde_json.specs.View.{items_view}
use Rattle.tui_panes_run.specs.Counts.{counts_data}
use Rattle.tui_panes_run.specs.Tree.{pane_in, parts_in}
use Rattle.tui_panes_run.proofs.Trees.{after}
use Rattle.tui_panes_run.proofs.tree.+panes.Given as goal

abbrev pub decreases-read_pane : goal.decreases-read_pane
decreases-read_pane l = 4 * l.room + 2

abbrev pub decreases-read_split : goal.decreases-read_split
decreases-read_split l = 4 * l.room + 1

abbrev pub decreases-read_parts : goal.decreases-read_parts
decreases-read_parts l = 4 * l.room + 4

abbrev pub decreases-read_part : goal.decreases-read_part
decreases-read_part l = 4 * l.room + 3

-- the parts so far are read, and with the rest all are
abbrev pub invariant-read_parts-loop-value : goal.invariant-read_parts-loop-value
invariant-read_parts-loop-value l =
    after l.parts.items (parts_in (pane_in l.room) l.number (counts_data l.at) (items_view (drop l.value-index l.values)))
    ≡ parts_in (pane_in l.room) l.number (counts_data l.fn.counts) (items_view l.values)
