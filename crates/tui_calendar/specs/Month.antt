-- The weeks of a month, which start on Sunday. A place is one cell of this grid of seven columns.
use Rattle.std.specs.Prelude.{
  ◌≡◌,
  ℕ,
  ◌+◌,
  ◌-◌,
  ◌*◌,
  ◌/◌,
  ◌%◌,
  ◌<◌,
  ◌≤◌,
  ◌==◌,
  nat_lt,
  ℤ,
  pos,
  negsuc,
  ◌+ℤ◌,
  ◌-ℤ◌,
  int_le,
  Option,
  None,
  Some,
  if◌then◌else◌,
}
use Rattle.jiff.specs.Words.{IsEpochDay, days_in_month}
use Rattle.jiff_core.specs.Calendar.{IsCivilDate, days_from_civil, weekday_number}
use Rattle.jiff_core.specs.declared.civil.date.Date.{Date as Plain}

-- a date as plain data
pub record DateData : Type 0 where
  pub year : ℤ
  pub month : ℕ
  pub day : ℕ

-- a date of the code as plain data
abbrev pub date_data : Plain → DateData
date_data d = record { year = d.year; month = d.month; day = d.day }

-- the date with this year, month and day
abbrev pub date_of : ℤ → ℕ → ℕ → DateData
date_of year month day = record { year = year; month = month; day = day }

-- how many days a weekday is after Sunday
abbrev pub after_sunday : ℤ → ℕ
after_sunday day = (weekday_number day + 1) % 7

-- how many places are before the first of the month
unfoldable pub leading_days_of : DateData → ℕ
leading_days_of d = after_sunday (days_from_civil d.year d.month 1)

-- how many days the month has
abbrev pub days_of : DateData → ℕ
days_of d = days_in_month d.year d.month

-- how many weeks have a day of the month
abbrev pub weeks_of : DateData → ℕ
weeks_of d = (leading_days_of d + days_of d + 6) / 7

-- the nth day before the first of a month, if the calendar has it
abbrev pub nth_before : ℤ → ℕ → ℕ → Option DateData
nth_before year month n =
    if month == 1 then (if int_le year (negsuc 9998) then None else Some (date_of (year -ℤ pos 1) 12 (32 - n)))
    else Some (date_of year (month - 1) (days_in_month year (month - 1) + 1 - n))

-- the nth day after the last of a month, if the calendar has it
abbrev pub nth_after : ℤ → ℕ → ℕ → Option DateData
nth_after year month n =
    if month == 12 then (if int_le (pos 9999) year then None else Some (date_of (year +ℤ pos 1) 1 n))
    else Some (date_of year (month + 1) n)

-- the date in place i, counted week by week from the first Sunday; none before the first and after the last day of the
-- calendar
unfoldable pub place_of : DateData → ℕ → Option DateData
place_of d i =
    if nat_lt i (leading_days_of d) then nth_before d.year d.month (leading_days_of d - i)
    else (if nat_lt i (leading_days_of d + days_of d) then Some (date_of d.year d.month (i + 1 - leading_days_of d))
    else nth_after d.year d.month (i + 1 - (leading_days_of d + days_of d)))

-- the day number of the first place
abbrev pub start_of : DateData → ℤ
start_of d = days_from_civil d.year d.month 1 -ℤ pos (leading_days_of d)

-- the date with a day number, or none if the calendar has no such date
abbrev pub IsDay : ℤ → Option DateData → Type 0
IsDay day (Some e) = IsCivilDate e.year e.month e.day × (days_from_civil e.year e.month e.day ≡ day)
IsDay day None = IsEpochDay day → ⊥

-- the place of a day of the month
abbrev pub place_of_day : DateData → ℕ → ℕ
place_of_day d k = leading_days_of d + k - 1

-- how a month is arranged in its weeks
pub record IsMonth (d : DateData) : Type 0 where
  -- each place has the date of its day
  pub places : (i : ℕ) → i < 7 * weeks_of d → IsDay (start_of d +ℤ pos i) (place_of d i)
  -- each day of the month is in its place and in no other
  pub days : (k : ℕ) → 1 ≤ k → k ≤ days_of d → place_of d (place_of_day d k) ≡ Some (date_of d.year d.month k)
  pub once : (i k : ℕ) → place_of d i ≡ Some (date_of d.year d.month k) → i ≡ place_of_day d k
  -- it is in the column of its weekday
  pub column : (k : ℕ) → 1 ≤ k → k ≤ days_of d → place_of_day d k % 7 ≡ after_sunday (days_from_civil d.year d.month k)
  -- it is in one of the weeks, and each of these has a day of the month
  pub inside : (k : ℕ) → 1 ≤ k → k ≤ days_of d → place_of_day d k < 7 * weeks_of d
  pub needed : (row : ℕ) → row < weeks_of d → (k : ℕ) × (1 ≤ k) × (k ≤ days_of d) × (place_of_day d k / 7 ≡ row)
