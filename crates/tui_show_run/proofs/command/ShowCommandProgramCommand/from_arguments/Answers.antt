use Rattle.std.proofs.Common.{sym, true≢false, ◌∙◌}
use Rattle.tui_show_run.proofs.Commands.{name_none, only_demo}
use Rattle.tui_show_run.proofs.command.ShowCommandProgramCommand.from_arguments.Goals as goal

pub returns-in-Some : goal.returns-in-Some
returns-in-Some c =
    let only = c.in-Some.ensures in
    (only.0, only_demo c.args.words.now c.in-Some.n only.0 only.1)

pub returns-in-None : goal.returns-in-None
returns-in-None c =
    name_none c.args.words.now (λ are. true≢false (sym (c.is_single_argument.ensures.1 are) ∙ c.if-is_single_argument.false), c.in-None.ensures)
