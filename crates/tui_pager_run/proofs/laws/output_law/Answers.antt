use Rattle.tui_pager_run.proofs.Output.{one_output}
use Rattle.tui_pager_run.proofs.laws.output_law.Goals as goal

pub returns : goal.returns
returns c = one_output c.print_laws.ensures.print c.pager_laws.ensures.screen
