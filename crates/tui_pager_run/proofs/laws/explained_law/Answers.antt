use Rattle.tui_pager_run.proofs.Explained.{input_faulty, input_leads}
use Rattle.tui_pager_run.proofs.laws.explained_law.Goals as goal

pub returns : goal.returns
returns c = record { found = input_faulty; leads = input_leads }
