use Rattle.tui_io.proofs.Printing.{Prints-then, Prints-writes}
use Rattle.tui_rows.proofs.write.write_rows.Goals as goal

pub returns : goal.returns
returns g c = Prints-writes c.new-print.ensures (Prints-then c.text.ensures c.emit_rows.ensures) c.end.ensures.writes_if
