use Rattle.tui_panes_run.proofs.program.run_program.Goals as goal
use Rattle.tui_program.proofs.Outcomes.{run_from_ends}

pub returns : goal.returns
returns g c = rw (c.into.ensures (run_from_ends c.run_program.ensures)) c.run_program.ensures
