-- The styles that a store has for dates.
use Rattle.std.specs.Prelude.{◌≡◌, List, map, Option, None, Some, ℤ, if◌then◌else◌}
use Rattle.std.specs.BTreeMap.{insert_entry, is_at}
use Rattle.std.specs.Map.{lookup}
use Rattle.std.specs.Option.{unwrap_or}
use Rattle.std.specs.Ordering.{int_cmp, int_eq}
use Rattle.jiff_core.specs.Calendar.{days_from_civil}
use Rattle.jiff_core.specs.Date.{epoch_day}
use Rattle.jiff_core.specs.declared.civil.date.Date.{Date}
use Rattle.tui_cells.specs.declared.style.Style.{Style}
use Rattle.tui_cells.specs.Style.{no_style}
use Rattle.tui_calendar.specs.Month.{DateData, date_data}
use Rattle.tui_calendar.specs.declared.calendar_event_store.CalendarEventStore.{CalendarEventStore}

-- how many days a date is after 1 January 1970
abbrev pub day_number : DateData → ℤ
day_number d = days_from_civil d.year d.month d.day

-- dates with a style each, in the order of the dates
abbrev pub DatedStyles : Type 0
DatedStyles = List (DateData × Style)

-- the style of a date among them
abbrev pub style_among : DatedStyles → DateData → Option Style
style_among dates d = lookup (is_at (λ key. int_cmp (day_number d) (day_number key))) dates

-- the dates with one more style, which replaces the style that its date had
abbrev pub with_date : DatedStyles → DateData → Style → DatedStyles
with_date = insert_entry (λ a b. int_cmp (day_number a) (day_number b))

-- the style of a date, or the empty style if it has none
abbrev pub style_or_none : DatedStyles → DateData → Style
style_or_none dates d = unwrap_or (style_among dates d) no_style

-- the dates and their styles, in the store's order
abbrev pub dated_styles : CalendarEventStore → DatedStyles
dated_styles store = map (λ e. (date_data e.0, e.1)) store.styles.entries

-- the style that is stored for a date
abbrev pub kept_style : CalendarEventStore → DateData → Option Style
kept_style store d = style_among (dated_styles store) d

-- the style that the store gives a date: the stored one, otherwise the empty one
abbrev pub event_style : CalendarEventStore → DateData → Style
event_style store = style_or_none (dated_styles store)

-- one date has the new style, and the others are unchanged
abbrev pub HasAdded : CalendarEventStore → CalendarEventStore → Date → Style → Type 0
HasAdded old new date style = (d : DateData) → kept_style new d ≡ (if int_eq (day_number d) (epoch_day date) then Some style else kept_style old d)

-- one date has this style, and no other date has one
abbrev pub HasOne : CalendarEventStore → Date → Style → Type 0
HasOne store date style = (d : DateData) → kept_style store d ≡ (if int_eq (day_number d) (epoch_day date) then Some style else None)
