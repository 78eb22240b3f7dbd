-- Dates: `[year, month, day]`.
use Rattle.std.specs.Prelude.{Bool, ◌&&◌, ℤ, pos, negsuc, int_le, unsigned_abs, Option, None, Some, option_and_then, if◌then◌else◌}
use Rattle.jiff.specs.Words.{days_in_month}
use Rattle.serde_json.specs.Data.{Data, Items, no_items, item}
use Rattle.serde_json.specs.Find.{as_array}
use Rattle.tui_calendar.specs.Month.{DateData, date_of as date_with}
use Rattle.tui_json.specs.Members.{◌>>=◌}
use Rattle.tui_json.specs.Number.{i16_of, i8_of}

-- whether a number is in a range, with both its ends
abbrev pub is_between : ℤ → ℤ → ℤ → Bool
is_between low high n = int_le low n && int_le n high

-- the calendar, from the year -9999 to 9999, has this day
abbrev pub has_day : ℤ → ℤ → ℤ → Bool
has_day year month day =
    is_between (negsuc 9998) (pos 9999) year &&
    (is_between (pos 1) (pos 12) month && is_between (pos 1) (pos (days_in_month year (unsigned_abs month))) day)

-- the date with these numbers
unfoldable pub civil_of : ℤ → ℤ → ℤ → Option DateData
civil_of year month day = if has_day year month day then Some (date_with year (unsigned_abs month) (unsigned_abs day)) else None

abbrev pub date_in : Items → Option DateData
date_in (item a (item b (item c no_items))) = do
  year ← i16_of a
  month ← i8_of b
  day ← i8_of c
  civil_of year month day
date_in _ = None

unfoldable pub date_of : Data → Option DateData
date_of d = option_and_then date_in (as_array d)
