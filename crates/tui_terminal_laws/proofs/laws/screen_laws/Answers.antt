use Rattle.tui_terminal_laws.proofs.Screens.{change_law, full_law}
use Rattle.tui_terminal_laws.proofs.Unchanged.{frames_follow, unchanged_sends_nothing}
use Rattle.tui_terminal_laws.proofs.laws.screen_laws.Goals as goal

pub returns : goal.returns
returns c = record { full = full_law; change = change_law; follow = frames_follow; nothing = unchanged_sends_nothing }
