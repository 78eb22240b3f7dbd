use Rattle.tui_io.proofs.Printing.{Prints-then}
use Rattle.tui_rows.proofs.rows.emit_three.Goals as goal

pub returns-clause-emitted : goal.returns-clause-emitted
returns-clause-emitted g c = (_, c.copy_same-count.ensures.copied, Prints-then c.extend.ensures c.extend-2.ensures)
