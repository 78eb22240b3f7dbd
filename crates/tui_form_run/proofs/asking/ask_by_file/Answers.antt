use Rattle.tui_form_run.proofs.Ending.{ends_with}
use Rattle.tui_form_run.proofs.asking.ask_by_file.Goals as goal

pub returns-clause-asked : goal.returns-clause-asked
returns-clause-asked g c =
    let read = c.in_ok-asked.ensures in
    (read.0, read.1, ends_with _ _ _ _ _ _ read.0 _ c.ask.result read.2 c.ask.ensures)
