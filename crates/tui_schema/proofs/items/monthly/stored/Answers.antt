use Rattle.tui_schema.proofs.Stored.{all_stored, none_stored, one_more}
use Rattle.tui_schema.proofs.items.monthly.stored.Goals as goal

pub loop-event-init : goal.loop-event-init
loop-event-init c = none_stored _ _ c.new-store.ensures.dates

pub loop-event-preserved : goal.loop-event-preserved
loop-event-preserved c = one_more _ _ _ _ _ c.loop-event-test.true c.event-item.is c.in_ok-add.ensures.dates c.loop-event.invariant

pub returns : goal.returns
returns c = all_stored _ _ _ c.loop-event-test.false c.loop-event.invariant
