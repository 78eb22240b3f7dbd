use Rattle.std.proofs.Common.{ℕ, List, ◌++◌, drop}
use Rattle.tui_io.specs.Prints.{Prints}
use Rattle.tui_print.specs.Print.{AreRunLines}
use Rattle.tui_print.proofs.runs.emit_runs.Given as goal

abbrev pub invariant-rows : goal.invariant-rows
invariant-rows g l =
    let k = g.K.Sink in
    (done : List ℕ)
    × ((rest : List ℕ) → AreRunLines l.number (drop l.number l.buf.rows) rest → AreRunLines 0 l.buf.rows (done ++ rest))
    × Prints (k.observed l.fn.sink) (k.observed l.sink) l.fn.print l.print done
