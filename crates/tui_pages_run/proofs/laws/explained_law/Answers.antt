use Rattle.tui_pages_run.proofs.Explained.{report_faulty, report_leads}
use Rattle.tui_pages_run.proofs.laws.explained_law.Goals as goal

pub returns : goal.returns
returns c = record { found = report_faulty; leads = report_leads }
