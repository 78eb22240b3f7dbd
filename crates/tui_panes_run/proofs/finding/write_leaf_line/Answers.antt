use Rattle.tui_panes_run.specs.Found.{leaf_line}
use Rattle.tui_panes_run.proofs.finding.write_leaf_line.Goals as goal

pub returns-in-None : goal.returns-in-None
unfolding leaf_line
returns-in-None g c = rw c.in-None.is c.write_all.ensures
