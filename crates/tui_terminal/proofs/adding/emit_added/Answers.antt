use Rattle.tui_io.proofs.Printing.{Prints-then}
use Rattle.tui_terminal_model.specs.Pens.{foreground_added, marks_added, marks_of, then_background_added}
use Rattle.tui_terminal.specs.Adding.{named_added}
use Rattle.tui_terminal.proofs.AddedTexts.{added_text}
use Rattle.tui_terminal.proofs.Texts.{Prints-text}
use Rattle.tui_terminal.proofs.adding.emit_added.Goals as goal

pub returns : goal.returns
returns g c =
    let a = c.args in
    let next = rw (c.bits.ensures, c.bits-2.ensures) at c.emit_marks_added-marked.ensures.next in
    let emitted = rw (c.bits.ensures, c.bits-2.ensures) at c.emit_marks_added-marked.ensures.emitted in
    Prints-text (added_text (marks_added 0 (marks_of a.was.modifier.bits) (marks_of a.is.modifier.bits)) (foreground_added a.was.fg a.is.fg) (named_added a.was.bg a.is.bg)
    c.emit_marks_added-marked.result c.emit_foreground_added-fronted.result c.emit_named_added-begun.result (then_background_added a.was.bg a.is.bg)
    next c.emit_foreground_added-fronted.ensures.next c.emit_named_added-begun.ensures.next)
    (Prints-then emitted (Prints-then c.emit_foreground_added-fronted.ensures.emitted (Prints-then c.emit_named_added-begun.ensures.emitted
    (Prints-then c.emit_end.ensures c.emit_unnamed_background_added.ensures))))
