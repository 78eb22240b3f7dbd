use Rattle.tui_layout.proofs.Found.{is_found}
use Rattle.tui_layout.proofs.StableWindow.{begins_within, ends_in_order}
use Rattle.tui_layout.proofs.window.window_of.Goals as goal

pub returns-clause-found : goal.returns-clause-found
returns-clause-found c = is_found _ _ _ _ _ _ c.window_with.ensures

pub returns-clause-order : goal.returns-clause-order
returns-clause-order c = ends_in_order _ _ _ _ _ _ c.window_with.ensures

pub returns-clause-first : goal.returns-clause-first
returns-clause-first c = begins_within _ _ _ _ _ _ c.window_with.ensures
