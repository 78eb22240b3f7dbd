use Rattle.tui_layout.proofs.Found.{window_is_unique}
use Rattle.tui_layout.proofs.StableWindow.{selected_is_shown, window_is_stable}
use Rattle.tui_layout.proofs.laws.window_laws.Goals as goal

pub returns : goal.returns
returns c = record { one = window_is_unique; selected = selected_is_shown; again = window_is_stable }
