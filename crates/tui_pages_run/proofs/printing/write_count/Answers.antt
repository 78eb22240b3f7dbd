use Rattle.tui_io.proofs.Printing.{Prints-then, Prints-writes}
use Rattle.tui_pages_run.specs.Printed.{count_line}
use Rattle.tui_pages_run.proofs.printing.write_count.Goals as goal

pub returns : goal.returns
unfolding count_line
returns g c =
    let number = rw c.page_count.ensures at c.number.ensures in
    Prints-writes c.new-print.ensures (Prints-then c.text.ensures (Prints-then number c.text-2.ensures)) c.end.ensures.writes_if
