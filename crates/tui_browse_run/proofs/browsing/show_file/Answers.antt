use Rattle.std.proofs.Common.{refl}
use Rattle.std.proofs.lemmas.Result.{err_from_is_err_and}
use Rattle.tui_browse_run.proofs.Parsing.{shown_on}
use Rattle.tui_browse_run.proofs.browsing.show_file.Goals as goal
use Rattle.tui_browse_run.specs.Input.{browse_reader}
use Rattle.tui_system.proofs.Commanding.{comes_without_memory}

pub returns-in_err-setting-clause-shown : goal.returns-in_err-setting-clause-shown
returns-in_err-setting-clause-shown g c =
    let p = err_from_is_err_and c.from_residual.result c.from_residual.ensures.1 in
    rw (p.1, p.2) (comes_without_memory (g.S.System.gives c.args.system.now) browse_reader)

pub returns-clause-shown : goal.returns-clause-shown
returns-clause-shown g c =
    shown_on (g.S.System.gives c.args.system.now) c.in_ok-setting.setting c.in_ok-command.command c.in_ok-command.bytes _ _ _ c.show_bytes.result refl
    c.in_ok-setting.ensures.given c.in_ok-command.ensures c.show_bytes.ensures.shown
