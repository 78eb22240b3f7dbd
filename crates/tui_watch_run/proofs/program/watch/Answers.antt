use Rattle.std.proofs.lemmas.Result.{err_from_is_err_and}
use Rattle.tui_system.proofs.Ending.{ends_unopened}
use Rattle.tui_system.specs.Opening.{opened}
use Rattle.tui_watch_run.proofs.program.watch.Goals as goal

pub returns-in_err-open_terminal : goal.returns-in_err-open_terminal
returns-in_err-open_terminal g c =
    let p = err_from_is_err_and c.from_residual.result c.from_residual.ensures.1 in
    rw (p.1, p.2) (ends_unopened _ (g.T.Console.is_open c.open_terminal.new.terminal) _ _ _ _ c.in_err-open_terminal.field-0.0
    c.in_err-open_terminal.ensures tt)

pub returns : goal.returns
returns g c =
    let is = c.in_ok-open_terminal.ensures in
    let run = rw is.0 at c.watch_on.ensures in
    opened c.watch_on.result (c.open_terminal.new.terminal, is.0, is.1) run
