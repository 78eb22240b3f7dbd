use Rattle.tui_calendar.specs.CalendarEventStore.{dated_styles}
use Rattle.tui_schema.proofs.Stored.{AreStored}
use Rattle.tui_schema.proofs.items.monthly.stored.Given as goal

abbrev pub invariant-loop-event : goal.invariant-loop-event
invariant-loop-event l = AreStored (dated_styles l.store) l.events l.event-index
