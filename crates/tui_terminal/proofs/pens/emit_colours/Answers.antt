use Rattle.tui_cells.specs.declared.color.Color.TheVariants.{Reset}
use Rattle.std.specs.Prelude.{if◌then◌else◌}
use Rattle.tui_io.proofs.Printing.{Prints-then}
use Rattle.tui_terminal_model.specs.Pens.{background_of, foreground_of, has_name, marks_from, marks_of, then_background}
use Rattle.tui_terminal.proofs.Texts.{Prints-text, paint_text}
use Rattle.tui_terminal.proofs.pens.emit_colours.Goals as goal

pub returns : goal.returns
returns g c =
    let a = c.args in
    let marks = rw c.bits.ensures at c.emit_marks.ensures in
    let back = rw c.named_or_reset.ensures at c.emit_background.ensures in
    Prints-text (paint_text (marks_from 0 (marks_of a.modifier.bits)) (foreground_of a.fg) (background_of (if has_name a.bg then a.bg else Reset)) (then_background a.bg))
    (Prints-then c.text.ensures (Prints-then marks (Prints-then c.emit_foreground.ensures (Prints-then back (Prints-then c.push.ensures c.emit_unnamed_background.ensures)))))
