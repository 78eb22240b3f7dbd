use Rattle.tui_io.proofs.Printing.{Prints-then}
use Rattle.tui_pager_run.specs.Printed.{key_line}
use Rattle.tui_pager_run.proofs.printing.add_state.Goals as goal

pub returns : goal.returns
unfolding key_line
returns g c =
    let line = rw c.from-line.ensures at c.number-3.ensures in
    Prints-then c.text.ensures (Prints-then c.number.ensures (Prints-then c.text-2.ensures (Prints-then c.place.ensures (Prints-then c.text-3.ensures
    (Prints-then c.number-2.ensures (Prints-then c.text-4.ensures (Prints-then line c.text-5.ensures)))))))
