use Rattle.std.specs.Ordering.{int_cmp}
use Rattle.tui_calendar.proofs.Events.{inserted, inserted_as}
use Rattle.tui_calendar.specs.CalendarEventStore.{day_number, dated_styles}
use Rattle.tui_calendar.specs.Month.{date_data}
use Rattle.tui_calendar.proofs.calendar_event_store.CalendarEventStore.add.Goals as goal

pub returns-clause-dates : goal.returns-clause-dates
returns-clause-dates c =
    rw c.in_ok-insert.ensures.entries
    (inserted_as date_data (λ a b. int_cmp (day_number a) (day_number b)) c.args.self.now.styles.entries c.args.date c.args.style)

pub returns-clause-ok : goal.returns-clause-ok
returns-clause-ok c = λ d.
    rw (c.in_ok-insert.ensures.entries, inserted_as date_data (λ a b. int_cmp (day_number a) (day_number b)) c.args.self.now.styles.entries c.args.date c.args.style)
    (inserted day_number (day_number d) (dated_styles c.args.self.now) (date_data c.args.date) c.args.style)
