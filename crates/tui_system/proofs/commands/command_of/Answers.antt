use Rattle.std.proofs.Common.{refl}
use Rattle.std.proofs.lemmas.Result.{err_from_is_err_and}
use Rattle.tui_system.proofs.Commanding.{command_given, none_given, not_given}
use Rattle.tui_system.proofs.commands.command_of.Goals as goal

pub returns-in_err-arguments : goal.returns-in_err-arguments
returns-in_err-arguments g c =
    let p = err_from_is_err_and c.from_residual.result c.from_residual.ensures.1 in
    rw (p.1, p.2) (not_given (g.S.System.gives c.args.system.now) g.C.SystemCommand.named c.arguments.result c.in_err-arguments.field-0.0 c.arguments.ensures c.in_err-arguments.ensures)

pub returns-in-Some : goal.returns-in-Some
returns-in-Some g c =
    command_given (g.S.System.gives c.args.system.now) g.C.SystemCommand.named c.arguments.result c.in_ok-arguments.arguments c.in-Some.command g.C.SystemCommand.few c.arguments.ensures
    c.in_ok-arguments.ensures c.in-Some.ensures.some

pub returns-in-None : goal.returns-in-None
returns-in-None g c =
    none_given (g.S.System.gives c.args.system.now) g.C.SystemCommand.named c.arguments.result c.in_ok-arguments.arguments g.C.SystemCommand.few c.arguments.ensures c.in_ok-arguments.ensures
    (c.in-None.ensures.none refl)
