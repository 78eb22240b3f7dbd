use Rattle.tui_terminal_laws.proofs.Depths.{drawing_widths_are_known}
use Rattle.tui_terminal_laws.proofs.laws.symbol_law.Goals as goal

pub returns : goal.returns
returns c = record { drawing = drawing_widths_are_known }
