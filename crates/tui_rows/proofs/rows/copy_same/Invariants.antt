use Rattle.std.proofs.Common.{◌≡◌, ◌+◌, ◌*◌, ◌-◌, ◌≤◌, ◌++◌, take}
use Rattle.tui_rows.specs.RowLine.{symbols_from}
use Rattle.tui_rows.proofs.rows.copy_same.Given as goal

abbrev pub invariant-loop-count : goal.invariant-loop-count
invariant-loop-count l = record {
  within : l.count ≤ l.most;
  copied : symbols_from l.row l.from ≡ take (3 * l.count) l.piece ++ symbols_from l.row (l.from + l.count);
}

abbrev pub decreases-loop-count : goal.decreases-loop-count
decreases-loop-count l = l.most - l.count
