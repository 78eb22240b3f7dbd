use Rattle.tui_panes_run.proofs.Explained.{input_found, input_leads}
use Rattle.tui_panes_run.proofs.laws.explained_law.Goals as goal

pub returns : goal.returns
returns c = record { found = input_found; leads = input_leads }
