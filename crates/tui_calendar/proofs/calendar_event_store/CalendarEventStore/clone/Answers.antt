use Rattle.tui_calendar.specs.contracts.calendar_event_store.CalendarEventStoreEq.TheImpl.Laws.{laws-law}
use Rattle.tui_calendar.proofs.calendar_event_store.CalendarEventStore.clone.Goals as goal

pub returns-clause-equal : goal.returns-clause-equal
returns-clause-equal c = rw c.in_ok-copied.ensures (laws-law.refl c.args.self.now)
