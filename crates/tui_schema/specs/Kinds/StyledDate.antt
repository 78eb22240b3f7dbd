-- Dates with a style: `{"date": .., "style": ..}`.
use Rattle.std.specs.Prelude.{List, [], ◌∷◌, Option, Some, codes}
use Rattle.serde_json.specs.Data.{Data}
use Rattle.tui_calendar.specs.CalendarEventStore.{DatedStyles, with_date}
use Rattle.tui_calendar.specs.Month.{DateData, date_data}
use Rattle.tui_cells.specs.declared.style.Style.{Style}
use Rattle.tui_schema.specs.declared.kinds.event.StyledDate.{StyledDate}
use Rattle.tui_schema.specs.Kinds.Date.{date_of}
use Rattle.tui_json.specs.Members.{◌>>=◌, member}
use Rattle.tui_schema.specs.Kinds.Style.{style_of}

abbrev pub event_data : StyledDate → DateData × Style
event_data e = (date_data e.date, e.style)

unfoldable pub event_of : Data → Option (DateData × Style)
event_of d = do
  date ← member date_of (codes "date") d
  style ← member style_of (codes "style") d
  Some (date, style)

-- styles of dates, overridden by those of events; of several events on a day the last one counts
abbrev pub with_events : DatedStyles → List (DateData × Style) → DatedStyles
with_events dates [] = dates
with_events dates (e ∷ es) = with_events (with_date dates e.0 e.1) es
