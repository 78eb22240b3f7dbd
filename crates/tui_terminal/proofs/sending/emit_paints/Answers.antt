use Rattle.std.proofs.Common.{◌≡◌, rules, true, false, sym, ◌∙◌}
use Rattle.tui_io.proofs.Printing.{Prints-none}
use Rattle.tui_terminal_model.specs.Pens.{paints_of, pen_of}
use Rattle.tui_terminal_laws.specs.Sending.{paints_on, repaints}
use Rattle.tui_terminal.specs.Sent.{is_pen}
use Rattle.tui_terminal.proofs.Texts.{Prints-text, first_of, left_out, not_left_out, second_of}
use Rattle.tui_terminal.proofs.sending.emit_paints.Goals as goal

pub returns-then-at : goal.returns-then-at
returns-then-at g c =
    let a = c.args in
    let off : c.is_pen.result ≡ false = search rules in
    Prints-text (first_of a.at.painted (repaints (pen_of a.depth a.at.pen) (pen_of a.depth a.attributes)) (paints_of (pen_of a.depth a.attributes)) c.if-at.true
    ∙ not_left_out (is_pen a.at a.attributes) (paints_on a.depth a.at a.attributes) (sym c.is_pen.ensures ∙ off)) c.emit_repaint.ensures

pub returns-else-at : goal.returns-else-at
returns-else-at g c =
    let a = c.args in
    let off : c.is_pen.result ≡ false = search rules in
    Prints-text (second_of a.at.painted (repaints (pen_of a.depth a.at.pen) (pen_of a.depth a.attributes)) (paints_of (pen_of a.depth a.attributes)) c.if-at.false
    ∙ not_left_out (is_pen a.at a.attributes) (paints_on a.depth a.at a.attributes) (sym c.is_pen.ensures ∙ off)) c.emit_pen.ensures

pub returns-else-not-is_pen : goal.returns-else-not-is_pen
returns-else-not-is_pen g c =
    let a = c.args in
    let on : c.is_pen.result ≡ true = search rules in
    Prints-text (left_out (is_pen a.at a.attributes) (paints_on a.depth a.at a.attributes) (sym c.is_pen.ensures ∙ on)) (Prints-none _ _)
