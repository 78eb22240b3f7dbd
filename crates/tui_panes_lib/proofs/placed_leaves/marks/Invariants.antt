use Rattle.std.proofs.Common.{◌≡◌, length}
use Rattle.tui_panes_lib.proofs.placed_leaves.marks.Given as goal

-- one mark for each number so far
abbrev pub invariant-loop : goal.invariant-loop
invariant-loop l = length l.marks.items ≡ l.counter
