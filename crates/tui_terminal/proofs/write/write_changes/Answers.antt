use Rattle.std.proofs.Common.{flat_map}
use Rattle.tui_io.proofs.Printing.{Prints-then, Prints-writes}
use Rattle.tui_terminal_model.specs.Encoding.{encoding}
use Rattle.tui_terminal_model.specs.Sends.{closing, opening}
use Rattle.tui_terminal_laws.specs.Sending.{change, rows_sent, send_rows}
use Rattle.tui_terminal_laws.proofs.Screens.{change_law}
use Rattle.tui_terminal.proofs.RowWalks.{frame_text}
use Rattle.tui_terminal.proofs.Texts.{Prints-text}
use Rattle.tui_terminal.proofs.write.write_changes.Goals as goal

pub returns : goal.returns
returns g c =
    let a = c.args in
    let o = a.output in
    let b = a.new.now in
    let shape = c.emit_new_rows.ensures.shape in
    let emitted = Prints-text (frame_text (opening o) (send_rows o b.area.y (rows_sent o.widths b.area.x a.old.now.rows b.rows)) (closing o a.cursor))
    (Prints-then c.emit_synchronizing_if.ensures (Prints-then c.emit_new_rows.ensures.emitted c.emit_closing.ensures)) in
    record {
      text = (
        flat_map encoding (change o a.cursor a.old.now b),
        change_law o a.cursor a.old.now b shape.0 shape.1 c.requires.area c.requires.cursor,
        Prints-writes c.new-print.ensures emitted c.end.ensures.writes_if,
      );
    }
