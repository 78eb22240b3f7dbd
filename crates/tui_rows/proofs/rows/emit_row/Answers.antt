use Rattle.tui_io.proofs.Printing.{Prints-then}
use Rattle.tui_rows.specs.RowLine.{row_line}
use Rattle.tui_rows.proofs.rows.emit_row.Goals as goal

pub returns : goal.returns
unfolding row_line
returns g c = Prints-then c.extend.ensures (Prints-then c.emit_symbols.ensures c.push.ensures)
