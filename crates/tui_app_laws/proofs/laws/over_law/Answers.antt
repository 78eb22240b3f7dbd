use Rattle.tui_app_laws.proofs.Drawn.{over_ends, over_matches_event_loop}
use Rattle.tui_app_laws.proofs.laws.over_law.Goals as goal

pub returns-clause-event_loop : goal.returns-clause-event_loop
returns-clause-event_loop g c = over_matches_event_loop g.A.App.behaviour

pub returns-clause-ends : goal.returns-clause-ends
returns-clause-ends g c = over_ends g.A.App.behaviour
