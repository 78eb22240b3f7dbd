use Rattle.tui_io.proofs.Printing.{Prints-then}
use Rattle.tui_terminal_model.specs.Pens.{has}
use Rattle.tui_terminal.proofs.Texts.{Prints-text, marks_text}
use Rattle.tui_terminal.proofs.pens.emit_marks.Goals as goal

pub returns : goal.returns
returns g c =
    let m = c.args.bits in
    Prints-text (marks_text (has m 1) (has m 2) (has m 4) (has m 8) (has m 16) (has m 32) (has m 64) (has m 128) (has m 256))
    (Prints-then c.emit_mark.ensures (Prints-then c.emit_mark-2.ensures (Prints-then c.emit_mark-3.ensures (Prints-then c.emit_mark-4.ensures
    (Prints-then c.emit_mark-5.ensures (Prints-then c.emit_mark-6.ensures (Prints-then c.emit_mark-7.ensures (Prints-then c.emit_mark-8.ensures c.emit_mark-9.ensures))))))))
