-- A month as plain data, its texts, and what its places show.
use Rattle.std.specs.Prelude.{ℕ, ◌+◌, ◌-◌, ◌/◌, ◌%◌, ◌==◌, min, nat_lt, List, [], ◌∷◌, ◌++◌, Option, None, Some, codes, get_or, option_map, if◌then◌else◌}
use Rattle.std.specs.Fmt.{signed_decimal}
use Rattle.tui_cells.specs.Rect.{farthest_edge}
use Rattle.tui_cells.specs.declared.style.Style.{Style}
use Rattle.tui_cells.specs.Style.{no_style, patched}
use Rattle.tui_frames.specs.Block.{BlockData, block_data}
use Rattle.tui_frames.specs.InBlock.{beside}
use Rattle.tui_frames.specs.Space.{columns_around, rows_around}
use Rattle.tui_calendar.specs.Month.{DateData, date_data, weeks_of}
use Rattle.tui_calendar.specs.declared.monthly.Monthly.{Monthly}
use Rattle.tui_calendar.specs.declared.monthly.rendering.Slot.{Slot}

-- a month as plain data; the headers and the surrounding days are shown if their styles are set
pub record MonthlyData : Type 0 where
  pub block : Option BlockData
  pub date : DateData
  pub month_header : Option Style
  pub weekdays_header : Option Style
  pub surrounding : Option Style
  pub default_style : Style

-- a month of the code as plain data
abbrev pub monthly_data : {DS : Type 0} → Monthly DS → MonthlyData
monthly_data m = record {
  block = option_map block_data m.block;
  date = date_data m.display_date;
  month_header = m.month_header;
  weekdays_header = m.weekdays_header;
  surrounding = m.surrounding;
  default_style = m.default_style;
}

-- only the weeks of a date's month
abbrev pub weeks_only : DateData → MonthlyData
weeks_only date = record { block = None; date = date; month_header = None; weekdays_header = None; surrounding = None; default_style = no_style }

-- the rows of a header, which may be hidden
abbrev pub rows_of : Option Style → ℕ
rows_of None = 0
rows_of (Some _) = 1

-- the columns that the month and its block take
abbrev pub monthly_width : MonthlyData → ℕ
monthly_width m = min (beside 21 (option_map columns_around m.block)) farthest_edge

-- the rows that they take
abbrev pub monthly_height : MonthlyData → ℕ
monthly_height m = min (beside (weeks_of m.date + (rows_of m.month_header + rows_of m.weekdays_header)) (option_map rows_around m.block)) farthest_edge

-- the names of the months, January first
abbrev pub month_names : List (List ℕ)
month_names =
    codes "January" ∷ codes "February" ∷ codes "March" ∷ codes "April" ∷ codes "May" ∷ codes "June" ∷ codes "July" ∷ codes "August"
    ∷ codes "September" ∷ codes "October" ∷ codes "November" ∷ codes "December" ∷ []

-- the name of month 1 to 12
abbrev pub month_name : ℕ → List ℕ
month_name month = get_or month_names (month - 1) []

-- the month and the year
unfoldable pub heading_text : DateData → List ℕ
heading_text d = month_name d.month ++ (codes " " ++ signed_decimal d.year)

-- the names of the weekdays, with a space before each
abbrev pub weekdays_text : List ℕ
weekdays_text = codes " Su Mo Tu We Th Fr Sa"

-- the number of a day, right-aligned in two columns
unfoldable pub day_text : ℕ → List ℕ
day_text day = (if nat_lt day 10 then 32 else 48 + day / 10) ∷ (48 + day % 10) ∷ []

-- two characters and their style
pub record SlotData : Type 0 where
  pub text : List ℕ
  pub style : Style

-- what a place of the code shows, as plain data
abbrev pub slot_data : Slot → SlotData
slot_data s = record { text = s.text.bytes; style = s.style }

-- only the background of a style
abbrev pub background : Style → Style
background s = record no_style { bg = s.bg }

-- a place without a date
abbrev pub blank_slot : MonthlyData → SlotData
blank_slot m = record { text = codes "  "; style = background m.default_style }

-- a day of another month, which is shown if surrounding days have a style
abbrev pub day_around : MonthlyData → DateData → Style → Option Style → SlotData
day_around m d event None = blank_slot m
day_around m d event (Some s) = record { text = day_text d.day; style = patched (patched m.default_style s) event }

-- what a place shows, with these styles of dates: a day of the month, a day of another month, or spaces if there is no
-- date
unfoldable pub slot_of : (DateData → Style) → MonthlyData → Option DateData → SlotData
slot_of style_of m None = blank_slot m
slot_of style_of m (Some d) =
    if d.month == m.date.month then record { text = day_text d.day; style = patched m.default_style (style_of d) }
    else day_around m d (style_of d) m.surrounding

-- the style of the space before a day
abbrev pub gap_style : MonthlyData → ℕ → Style
gap_style m column = if column == 0 then no_style else background m.default_style
