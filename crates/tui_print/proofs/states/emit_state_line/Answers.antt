use Rattle.tui_print.specs.Print.{state_text}
use Rattle.tui_io.proofs.Printing.{Prints-then}
use Rattle.tui_print.proofs.states.emit_state_line.Goals as goal

pub returns : goal.returns
unfolding state_text
returns g c =
    Prints-then c.extend.ensures (Prints-then c.number.ensures (Prints-then c.push.ensures (Prints-then c.extend-2.ensures
    (Prints-then c.push-2.ensures (Prints-then c.number-2.ensures (Prints-then c.push-3.ensures (Prints-then c.place.ensures
    (Prints-then c.push-4.ensures (Prints-then c.place-2.ensures c.push-5.ensures)))))))))
