use Rattle.tui_io.proofs.Printing.{Prints-then, Prints-writes}
use Rattle.tui_program.specs.FieldLine.{refused_field}
use Rattle.tui_program.proofs.field_line.write_name.Goals as goal

pub returns : goal.returns
unfolding refused_field
returns g c =
    Prints-writes c.new-print.ensures (Prints-then c.text.ensures (Prints-then c.text-2.ensures c.text-3.ensures)) c.end.ensures.writes_if
