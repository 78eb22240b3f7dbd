use Rattle.std.proofs.Common.{sym, true≢false, ◌∙◌}
use Rattle.tui_panes_run.proofs.Commands.{none_named}
use Rattle.tui_panes_run.proofs.command.PanesCommandJsonCommand.json_command_of.Goals as goal

pub returns-in-None : goal.returns-in-None
returns-in-None c =
    none_named c.args.arguments.now (λ are. true≢false (sym (c.are_empty.ensures.1 are) ∙ c.if-are_empty.false))
    (λ are. true≢false (sym (c.is_single_argument.ensures.1 are) ∙ c.if-is_single_argument.false)) c.in-None.ensures
