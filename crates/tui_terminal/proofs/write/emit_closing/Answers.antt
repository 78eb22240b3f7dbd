use Rattle.std.proofs.Common.{refl, false, ◌∷◌, []}
use Rattle.std.specs.Prelude.{if◌then◌else◌}
use Rattle.tui_io.proofs.Printing.{Prints-then}
use Rattle.tui_terminal_model.specs.Sends.{cursor_commands}
use Rattle.tui_terminal_model.specs.Encoding.{encoding}
use Rattle.tui_terminal_model.specs.Terminal.{synchronizing, set_mode}
use Rattle.tui_terminal.proofs.Texts.{Prints-text, more_text}
use Rattle.tui_terminal.proofs.write.emit_closing.Goals as goal

pub returns : goal.returns
returns g c =
    let o = c.args.output in
    Prints-text (more_text encoding (cursor_commands c.args.cursor) (if o.synchronized then set_mode synchronizing false ∷ [] else []) _ refl) (Prints-then c.emit_cursor.ensures c.emit_synchronizing_if.ensures)
