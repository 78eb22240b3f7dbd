use Rattle.std.proofs.Common.{sym, false}
use Rattle.tui_terminal_model.specs.Encoding.{encoding}
use Rattle.tui_terminal_model.specs.Terminal.{set_mode, visible}
use Rattle.tui_terminal.proofs.Texts.{Prints-text, one_text}
use Rattle.tui_terminal.proofs.write.emit_hidden.Goals as goal

pub returns : goal.returns
returns g c = Prints-text (sym (one_text encoding (set_mode visible false))) c.emit_visible.ensures
