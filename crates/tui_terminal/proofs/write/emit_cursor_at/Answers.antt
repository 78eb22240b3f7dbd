use Rattle.std.proofs.Common.{true}
use Rattle.tui_io.proofs.Printing.{Prints-then}
use Rattle.tui_terminal_model.specs.Terminal.{place, set_mode, visible}
use Rattle.tui_terminal.proofs.RowWalks.{two_text}
use Rattle.tui_terminal.proofs.Texts.{Prints-text}
use Rattle.tui_terminal.proofs.write.emit_cursor_at.Goals as goal

pub returns : goal.returns
returns g c = Prints-text (two_text (place c.args.p.x c.args.p.y) (set_mode visible true)) (Prints-then c.emit_place.ensures c.emit_visible.ensures)
