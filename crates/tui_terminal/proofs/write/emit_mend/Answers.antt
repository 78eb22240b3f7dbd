use Rattle.tui_io.proofs.Printing.{Prints-then}
use Rattle.tui_terminal.proofs.RowWalks.{mend_text}
use Rattle.tui_terminal.proofs.Texts.{Prints-text}
use Rattle.tui_terminal.proofs.write.emit_mend.Goals as goal

pub returns : goal.returns
unfolding lib.Utf8.encode
returns g c = Prints-text (mend_text c.args.area) (Prints-then c.emit_place.ensures (Prints-then c.text.ensures c.text-2.ensures))
