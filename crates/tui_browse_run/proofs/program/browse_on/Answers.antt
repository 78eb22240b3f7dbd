use Rattle.std.proofs.Common.{Err, Ok}
use Rattle.tui_browse_run.proofs.Parsing.{ends_stopped}
use Rattle.tui_browse_run.proofs.program.browse_on.Goals as goal

pub returns-in-Ok : goal.returns-in-Ok
returns-in-Ok g c =
    let shown = c.in-Ok.ensures.shown in
    (Ok shown.0, shown.1, (c.in-Ok.end, shown.2, c.session_outcome.ensures))

pub returns-in-Err : goal.returns-in-Err
returns-in-Err g c =
    (Err c.in-Err.stop, c.in-Err.ensures.shown, ends_stopped _ _ _ c.in-Err.stop c.report_stop.result c.in-Err.ensures.still c.report_stop.ensures)
