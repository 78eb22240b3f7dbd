use Rattle.tui_program.proofs.Completeness.{named_run}
use Rattle.tui_program.proofs.program.run.Goals as goal

pub returns-in-Some : goal.returns-in-Some
returns-in-Some g c = named_run g.C.ProgramCommand.rules _ _ c.run.result c.in-Some.command c.in-Some.ensures c.run.ensures
