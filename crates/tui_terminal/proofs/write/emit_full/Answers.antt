use Rattle.std.proofs.Common.{map}
use Rattle.tui_io.proofs.Printing.{Prints-then}
use Rattle.tui_terminal_model.specs.Calls.{mending}
use Rattle.tui_terminal_model.specs.Sends.{closing, opening}
use Rattle.tui_terminal_model.specs.Terminal.{reset_modes}
use Rattle.tui_terminal_laws.specs.Sending.{row_in_full, send_rows}
use Rattle.tui_terminal.proofs.RowWalks.{whole_text}
use Rattle.tui_terminal.proofs.Texts.{Prints-text}
use Rattle.tui_terminal.proofs.write.emit_full.Goals as goal

pub returns-clause-emitted : goal.returns-clause-emitted
returns-clause-emitted g c =
    let o = c.args.output in
    let b = c.args.buf.now in
    let mended = rw c.area.ensures at c.emit_mending.ensures in
    Prints-text (whole_text reset_modes (mending o.widths b.area) (opening o) (send_rows o b.area.y (map (row_in_full o.widths b.area.x) b.rows)) (closing o c.args.cursor))
    (Prints-then c.emit_reset_modes.ensures (Prints-then mended (Prints-then c.emit_synchronizing_if.ensures (Prints-then c.emit_rows.ensures.emitted c.emit_closing.ensures))))
