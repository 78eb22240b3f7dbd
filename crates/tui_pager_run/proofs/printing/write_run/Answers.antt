use Rattle.tui_io.proofs.Printing.{Prints-then, Prints-writes}
use Rattle.tui_pager_run.proofs.printing.write_run.Goals as goal

pub returns : goal.returns
returns g c =
    let states = rw c.deref.ensures.value at c.add_states.ensures in
    let last = c.add_screen.ensures in
    (_, last.0, c.screen.ensures, last.1, Prints-writes c.new-print.ensures (Prints-then states last.2) c.end.ensures.writes_if)
