use Rattle.tui_form_run.proofs.Explained.{form_faulty, form_leads}
use Rattle.tui_form_run.proofs.laws.explained_law.Goals as goal

pub returns : goal.returns
returns c = record { found = form_faulty; leads = form_leads }
