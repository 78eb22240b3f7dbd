use Rattle.tui_io.proofs.Printing.{Prints-then}
use Rattle.tui_terminal.proofs.pens.emit_rgb.Goals as goal

pub returns : goal.returns
returns g c =
    Prints-then c.text.ensures
    (Prints-then c.number.ensures (Prints-then c.push.ensures (Prints-then c.number-2.ensures (Prints-then c.push-2.ensures c.number-3.ensures))))
