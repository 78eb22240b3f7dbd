use Rattle.tui_io.proofs.Printing.{Prints-then}
use Rattle.tui_terminal_model.specs.Encoding.{encoding}
use Rattle.tui_terminal.proofs.encoding.emit_across.Goals as goal

pub returns : goal.returns
unfolding encoding
returns g c = Prints-then c.text.ensures (Prints-then c.number.ensures c.text-2.ensures)
