use Rattle.std.proofs.Common.{Err, Ok, ap}
use Rattle.tui_form_run.proofs.Ending.{ends_stopped}
use Rattle.tui_form_run.proofs.program.run_on.Goals as goal

pub returns-in-Ok : goal.returns-in-Ok
returns-in-Ok g c =
    let asked = c.in-Ok.ensures.asked in
    (Ok asked.0, asked.1, asked.2)

pub returns-in-Err : goal.returns-in-Err
returns-in-Err g c = (
  Err c.in-Err.stop,
  c.in-Err.ensures.asked,
  ends_stopped _ _ _ _ _ c.in-Err.stop c.report_stop.result c.in-Err.ensures.terminal (ap g.A.Sink.observed c.in-Err.ensures.answers) c.report_stop.ensures,
)
