use Rattle.tui_terminal_laws.proofs.Between.{restores_main_screen, settles}
use Rattle.tui_terminal_laws.proofs.laws.session_law.Goals as goal

pub returns : goal.returns
returns c = record { between = restores_main_screen; settles = settles }
