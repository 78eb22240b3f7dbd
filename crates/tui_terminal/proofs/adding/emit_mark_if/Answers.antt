use Rattle.tui_io.proofs.Printing.{Prints-then}
use Rattle.tui_terminal.proofs.AddedTexts.{mark_begins}
use Rattle.tui_terminal.proofs.Texts.{Prints-text}
use Rattle.tui_terminal.proofs.adding.emit_mark_if.Goals as goal

pub returns-then-is_on-clause-emitted : goal.returns-then-is_on-clause-emitted
returns-then-is_on-clause-emitted g c = Prints-text (mark_begins c.args.begun c.args.place c.args.is_on c.if-is_on.true) (Prints-then c.emit_lead.ensures c.number.ensures)
