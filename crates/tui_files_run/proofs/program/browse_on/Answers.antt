use Rattle.std.proofs.Common.{Err, Ok}
use Rattle.std.proofs.lemmas.Result.{err_from_is_err_and}
use Rattle.tui_files_run.proofs.Ending.{ends_begun, ends_unbegun, untouched}
use Rattle.tui_files_run.proofs.program.browse_on.Goals as goal

pub returns-in_err-browsing-in-Ok : goal.returns-in_err-browsing-in-Ok
returns-in_err-browsing-in-Ok g c =
    let p = err_from_is_err_and c.from_residual.result c.from_residual.ensures.1 in
    rw (p.1, p.2) (
      Ok c.in-Ok.command,
      c.in-Ok.ensures,
      ends_unbegun g.row.F.Denot _ _ _ _ _ _ c.in-Ok.command c.in_err-browsing-in-Ok.field-0.0 c.in_err-browsing-in-Ok.ensures,
    )

pub returns-in_ok-browsing-in-Ok : goal.returns-in_ok-browsing-in-Ok
returns-in_ok-browsing-in-Ok g c = (
  Ok c.in-Ok.command,
  c.in-Ok.ensures,
  ends_begun g.row.F.Denot _ _ _ _ _ _ _ _ c.in-Ok.command c.in_ok-browsing-in-Ok.browsing.command c.in_ok-browsing-in-Ok.browsing.app c.run_browser.result
      c.in_ok-browsing-in-Ok.ensures c.run_browser.ensures,
)

pub returns-in-Err : goal.returns-in-Err
returns-in-Err g c = (Err c.in-Err.stop, c.in-Err.ensures, (c.report_stop.ensures, untouched _))
