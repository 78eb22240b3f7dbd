use Rattle.std.proofs.Common.{refl}
use Rattle.tui_io.proofs.Printing.{Prints-then}
use Rattle.tui_print.proofs.screen.emit_screen.Goals as goal

pub returns : goal.returns
returns g c =
    let lines = c.emit_runs.ensures in
    (_, record { runs = lines.0; are_runs = lines.1; parts = refl }, Prints-then c.emit_rows.ensures (Prints-then lines.2 c.emit_states.ensures))
