use Rattle.tui_io.proofs.Printing.{Prints-writes}
use Rattle.tui_terminal.proofs.styled.write_styled_rows.Goals as goal

pub returns : goal.returns
returns g c =
    let rows = c.emit_styled_rows.ensures in
    record { text = (rows.0, rows.1, Prints-writes c.new-print.ensures rows.2 c.end.ensures.writes_if) }
