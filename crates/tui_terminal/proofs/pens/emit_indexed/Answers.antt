use Rattle.tui_io.proofs.Printing.{Prints-then}
use Rattle.tui_terminal.proofs.pens.emit_indexed.Goals as goal

pub returns : goal.returns
returns g c = Prints-then c.text.ensures c.number.ensures
