use Rattle.std.proofs.Common.{◌≡◌, ◌+◌, ◌-◌, ◌≤◌, ◌++◌, length, take}
use Rattle.tui_rows.specs.RowLine.{symbols_from}
use Rattle.tui_rows.proofs.rows.copy_plain.Given as goal

abbrev pub invariant-loop-count : goal.invariant-loop-count
invariant-loop-count l = (l.count ≤ 192) × (l.from + l.count ≤ length l.row)
    × (symbols_from l.row l.from ≡ take l.count l.piece ++ symbols_from l.row (l.from + l.count))

abbrev pub decreases-loop-count : goal.decreases-loop-count
decreases-loop-count l = 192 - l.count
