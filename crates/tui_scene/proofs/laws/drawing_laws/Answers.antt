use Rattle.tui_scene.proofs.Drawn.{one_drawing}
use Rattle.tui_scene.proofs.Freshness.{items_repeat}
use Rattle.tui_scene.proofs.Strokes.{order, states_stable, outside}
use Rattle.tui_scene.proofs.laws.drawing_laws.Goals as goal

pub returns-clause-order : goal.returns-clause-order
returns-clause-order c = order

pub returns-clause-again : goal.returns-clause-again
returns-clause-again c = states_stable

pub returns-clause-layers : goal.returns-clause-layers
returns-clause-layers c = items_repeat

pub returns-clause-outside : goal.returns-clause-outside
returns-clause-outside c = outside

pub returns-clause-one : goal.returns-clause-one
returns-clause-one c = one_drawing
