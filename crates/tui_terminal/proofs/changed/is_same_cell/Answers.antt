use Rattle.tui_terminal.proofs.SameRows.{same_is}
use Rattle.tui_terminal.proofs.changed.is_same_cell.Goals as goal

pub returns : goal.returns
returns c = same_is c.args.old.now c.args.new.now c.is_same.result c.is_same.ensures
