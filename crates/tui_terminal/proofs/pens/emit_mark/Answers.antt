use Rattle.tui_io.proofs.Printing.{Prints-then}
use Rattle.tui_terminal.proofs.Texts.{Prints-text, mark_on}
use Rattle.tui_terminal.proofs.pens.emit_mark.Goals as goal

pub returns-then-is_on : goal.returns-then-is_on
returns-then-is_on g c = Prints-text (mark_on c.args.place c.args.is_on c.if-is_on.true) (Prints-then c.push.ensures c.number.ensures)
