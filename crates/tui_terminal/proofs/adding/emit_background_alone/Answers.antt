use Rattle.tui_io.proofs.Printing.{Prints-then}
use Rattle.tui_terminal_model.specs.Pens.{background_added}
use Rattle.tui_terminal.proofs.AddedTexts.{sequence_text}
use Rattle.tui_terminal.proofs.Texts.{Prints-text}
use Rattle.tui_terminal.proofs.adding.emit_background_alone.Goals as goal

pub returns : goal.returns
returns g c =
    let emitted = c.emit_background_added-begun in
    Prints-text (sequence_text (background_added c.args.was c.args.is) emitted.result emitted.ensures.next) (Prints-then emitted.ensures.emitted c.emit_end.ensures)
