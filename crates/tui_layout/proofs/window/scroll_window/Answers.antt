use Rattle.std.proofs.Common.{arith}
use Rattle.tui_layout.proofs.Windows.{none_is_window}
use Rattle.tui_layout.proofs.window.scroll_window.Goals as goal

pub returns-then-count-eq0-clause-window : goal.returns-then-count-eq0-clause-window
returns-then-count-eq0-clause-window g c = none_is_window _ _ _ _ _ (omega arith)
