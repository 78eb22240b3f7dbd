use Rattle.std.proofs.Common.{flat_map}
use Rattle.tui_io.proofs.Printing.{Prints-writes}
use Rattle.tui_terminal_model.specs.Encoding.{encoding}
use Rattle.tui_terminal_laws.specs.Sending.{full}
use Rattle.tui_terminal_laws.proofs.Screens.{full_law}
use Rattle.tui_terminal.proofs.write.write_full.Goals as goal

pub returns : goal.returns
returns g c =
    let a = c.args in
    record {
      text = (
        flat_map encoding (full a.output a.cursor a.buf.now),
        full_law a.output a.cursor a.buf.now c.emit_full.ensures.shape c.requires,
        Prints-writes c.new-print.ensures c.emit_full.ensures.emitted c.end.ensures.writes_if,
      );
    }
