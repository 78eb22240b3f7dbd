use Rattle.std.proofs.Common.{◌≡◌, ℕ, ◌-◌, ◌≤◌, List, ◌++◌, length}
use Rattle.tui_io.specs.Prints.{Prints}
use Rattle.tui_rows.specs.RowLine.{symbols_from}
use Rattle.tui_text.specs.Visible.{symbols_in}
use Rattle.tui_rows.proofs.rows.emit_symbols.Given as goal

abbrev pub invariant-loop-column : goal.invariant-loop-column
invariant-loop-column g l =
    let k = g.K.Sink in
    (l.column ≤ length l.row) × ((done : List ℕ)
    × Prints (k.observed l.fn.sink) (k.observed l.sink) l.fn.print l.print done
    × (done ++ symbols_from l.row l.column ≡ symbols_in l.row))

abbrev pub decreases-loop-column : goal.decreases-loop-column
decreases-loop-column g l = length l.row - l.column
