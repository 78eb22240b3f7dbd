use Rattle.tui_panes_run.proofs.program.run_panes.Goals as goal
use Rattle.tui_program.proofs.Outcomes.{run_ends}

pub returns : goal.returns
returns g c = rw (c.into.ensures (run_ends c.run.ensures)) c.run.ensures
