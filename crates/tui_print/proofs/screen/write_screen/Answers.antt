use Rattle.tui_io.proofs.Printing.{Prints-writes}
use Rattle.tui_print.proofs.screen.write_screen.Goals as goal

pub returns : goal.returns
returns g c =
    let print = c.emit_screen.ensures in
    (print.0, print.1, Prints-writes c.new-print.ensures print.2 c.end.ensures.writes_if)
