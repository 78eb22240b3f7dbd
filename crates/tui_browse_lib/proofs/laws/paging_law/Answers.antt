use Rattle.tui_browse_lib.proofs.Selected.{pager_is_shown}
use Rattle.tui_browse_lib.proofs.laws.paging_law.Goals as goal

pub returns : goal.returns
returns c = pager_is_shown c.args.output c.waiting_law.ensures
