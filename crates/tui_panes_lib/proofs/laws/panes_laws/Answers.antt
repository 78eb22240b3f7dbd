use Rattle.tui_panes_lib.proofs.AreDisjointItems.{stay_fresh}
use Rattle.tui_panes_lib.proofs.Retried.{retried}
use Rattle.tui_panes_lib.proofs.laws.panes_laws.Goals as goal

pub returns : goal.returns
returns c = record { fresh = stay_fresh; again = retried }
