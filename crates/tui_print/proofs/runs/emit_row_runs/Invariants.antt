use Rattle.std.proofs.Common.{length, ◌-◌, ◌≤◌, List, flat_map}
use Rattle.tui_io.specs.Prints.{Prints}
use Rattle.tui_print.specs.Print.{run_line}
use Rattle.tui_print.specs.Runs.{StyleRun}
use Rattle.tui_print.proofs.RunLemmas.{RunsBefore}
use Rattle.tui_print.proofs.runs.emit_row_runs.Given as goal

abbrev pub invariant-loop-start : goal.invariant-loop-start
invariant-loop-start g l =
    let k = g.K.Sink in
    (l.start ≤ length l.row)
    × ((runs : List StyleRun) × RunsBefore l.row l.start runs
    × Prints (k.observed l.fn.sink) (k.observed l.sink) l.fn.print l.print (flat_map (run_line l.number) runs))

abbrev pub decreases-loop-start : goal.decreases-loop-start
decreases-loop-start g l = length l.row - l.start
