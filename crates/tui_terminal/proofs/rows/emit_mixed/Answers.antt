use Rattle.tui_io.proofs.Printing.{Prints-then}
use Rattle.tui_terminal_laws.specs.declared.wanted.Wanted.TheVariants.{UncertainWidth, KnownWidth}
use Rattle.tui_terminal_laws.specs.Sending.{nothing_known}
use Rattle.tui_terminal_laws.specs.Sent.{row_shown, sent}
use Rattle.tui_terminal.proofs.Texts.{Prints-text}
use Rattle.tui_terminal.proofs.Walking.{send_more}
use Rattle.tui_terminal.proofs.rows.emit_mixed.Goals as goal

pub returns : goal.returns
returns g c =
    let a = c.args in
    let widths = a.target.output.widths in
    let row = row_shown widths a.row.now in
    let first = rw c.nothing_known.ensures at c.emit_pass-at.ensures in
    Prints-text (send_more a.target.output a.target.y nothing_known c.emit_pass-at.result (sent widths UncertainWidth a.target.left row row) (sent widths KnownWidth a.target.left row row) first.next)
    (Prints-then first.emitted c.emit_pass.ensures.emitted)
