use Rattle.tui_io.proofs.Printing.{Prints-none}
use Rattle.tui_terminal_model.specs.Terminal.{synchronizing, set_mode}
use Rattle.tui_terminal.proofs.RowWalks.{kept_in, kept_out}
use Rattle.tui_terminal.proofs.Texts.{Prints-text}
use Rattle.tui_terminal.proofs.write.emit_synchronizing_if.Goals as goal

pub returns-then-synchronized : goal.returns-then-synchronized
returns-then-synchronized g c = Prints-text (kept_in c.args.synchronized (set_mode synchronizing c.args.on) c.if-synchronized.true) c.emit_synchronizing.ensures

pub returns-else-synchronized : goal.returns-else-synchronized
returns-else-synchronized g c = Prints-text (kept_out c.args.synchronized (set_mode synchronizing c.args.on) c.if-synchronized.false) (Prints-none _ _)
