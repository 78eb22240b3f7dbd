use Rattle.std.proofs.Common.{inl, inr, subst}
use Rattle.tui_io.specs.Causes.{Observed}
use Rattle.tui_program.specs.Stops.{WritesLine, line_of}
use Rattle.tui_watch_run.proofs.program.watch_on.Goals as goal
use Rattle.tui_system.specs.RejectsNothing.{no_line}

pub returns-in-Ok : goal.returns-in-Ok
returns-in-Ok g c = inl (c.in-Ok.end, c.in-Ok.ensures, c.session_outcome.ensures)

pub returns-in-Err : goal.returns-in-Err
returns-in-Err g c =
    let watched = c.in-Err.ensures in
    inr (
      c.in-Err.stop,
      watched.0,
      subst (λ (old : Observed). WritesLine (line_of no_line c.in-Err.stop) c.in-Err.stop old (g.T.Sink.observed c.report_stop.new.sink) c.report_stop.result)
          watched.1 c.report_stop.ensures,
    )
