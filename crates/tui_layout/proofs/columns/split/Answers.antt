use Rattle.tui_layout.proofs.Splitting.{split_is}
use Rattle.tui_layout.proofs.columns.split.Goals as goal

pub returns-clause-columns : goal.returns-clause-columns
returns-clause-columns c = (split_is c.placed.result _ _ _ _ _ c.new-plan.ensures.plan c.placed.ensures).0

pub returns-clause-order : goal.returns-clause-order
returns-clause-order c = (split_is c.placed.result _ _ _ _ _ c.new-plan.ensures.plan c.placed.ensures).1

pub returns-clause-whole : goal.returns-clause-whole
returns-clause-whole c = (split_is c.placed.result _ _ _ _ _ c.new-plan.ensures.plan c.placed.ensures).2
