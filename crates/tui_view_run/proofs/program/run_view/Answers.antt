use Rattle.std.proofs.Common.{Err, Ok, refl}
use Rattle.tui_view_run.proofs.program.run_view.Goals as goal

pub returns-in-Ok : goal.returns-in-Ok
returns-in-Ok g c = (Ok c.in-Ok.command, c.in-Ok.ensures, c.run_command.ensures)

pub returns-in-Err : goal.returns-in-Err
returns-in-Err g c = (Err c.in-Err.stop, c.in-Err.ensures, (c.report_stop.ensures, refl))
