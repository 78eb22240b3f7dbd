use Rattle.tui_files_lib.proofs.Selected.{names_are_shown}
use Rattle.tui_files_lib.proofs.laws.files_law.Goals as goal

pub returns : goal.returns
returns g c = names_are_shown _ g.F.Folders.lists c.args.output c.waiting_law.ensures
