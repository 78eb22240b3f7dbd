-- The fields of `monthly`.
use Rattle.std.specs.Prelude.{ℕ, [], Option, Result, Ok, unwrap_or}
use Rattle.serde_json.specs.Data.{Data}
use Rattle.tui_calendar.specs.CalendarEventStore.{DatedStyles, dated_styles}
use Rattle.tui_calendar.specs.Monthly.{MonthlyData, monthly_data}
use Rattle.tui_calendar.specs.declared.calendar_event_store.CalendarEventStore.{CalendarEventStore}
use Rattle.tui_calendar.specs.declared.monthly.Monthly.{Monthly}
use Rattle.tui_cells.specs.declared.style.Style.{Style}
use Rattle.tui_schema.specs.declared.field.Field.TheVariants as fields
use Rattle.tui_schema.specs.Items.Frame.{style_in}
use Rattle.tui_schema.specs.Kinds.Block.{block_of}
use Rattle.tui_schema.specs.Kinds.Date.{date_of}
use Rattle.tui_schema.specs.Kinds.StyledDate.{event_of, with_events}
use Rattle.tui_json.specs.Members.{list_of}
use Rattle.tui_schema.specs.Kinds.Style.{style_of}
use Rattle.tui_json.specs.Refusals.{◌>>=◌}
use Rattle.tui_schema.specs.Refusals.{required, optional}
use Rattle.tui_schema.specs.declared.bad_field.BadField.{BadField}

-- the dates that have a style of their own, and the month
abbrev pub calendar_data : Monthly CalendarEventStore → DatedStyles × MonthlyData
calendar_data m = (dated_styles m.events, monthly_data m)

-- the styles of the days around the month, of its headers, and of its days
unfoldable pub month_styles_of : Option ℕ → Data → Result (Option Style × Option Style × Option Style × Style) BadField
month_styles_of i d = do
  surrounding ← optional style_of i fields.ShowSurrounding d
  month_header ← optional style_of i fields.ShowMonthHeader d
  weekdays_header ← optional style_of i fields.ShowWeekdaysHeader d
  default_style ← style_in i fields.DefaultStyle d
  Ok (surrounding, month_header, weekdays_header, default_style)

-- all fields of a month, with the styles of its dates
unfoldable pub shown_monthly : Option ℕ → Data → Result (DatedStyles × MonthlyData) BadField
shown_monthly i d = do
  block ← optional block_of i fields.Block d
  date ← required date_of i fields.Date d
  events ← optional (list_of event_of) i fields.Events d
  styles ← month_styles_of i d
  Ok (
    with_events [] (unwrap_or events []),
    record {
      block = block;
      date = date;
      surrounding = styles.0;
      month_header = styles.1;
      weekdays_header = styles.2;
      default_style = styles.3;
    },
  )
