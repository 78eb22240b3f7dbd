use Rattle.tui_io.proofs.Printing.{Prints-then, Prints-writes}
use Rattle.tui_program.specs.FieldLine.{refused_in_scene}
use Rattle.tui_program.proofs.field_line.write_part_field.Goals as goal

pub returns : goal.returns
unfolding refused_in_scene
returns g c =
    let name = Prints-then c.text-4.ensures (Prints-then c.text-5.ensures c.text-6.ensures) in
    let line = Prints-then c.text.ensures (Prints-then c.text-2.ensures (Prints-then c.text-3.ensures (Prints-then c.number.ensures name))) in
    Prints-writes c.new-print.ensures line c.end.ensures.writes_if
