-- The places of a month and the calendar's days.
use Rattle.std.proofs.Common.{
  ◌≡◌,
  ℕ,
  zero,
  suc,
  ◌+◌,
  ◌-◌,
  ◌*◌,
  ◌/◌,
  ◌%◌,
  ◌<◌,
  ◌≤◌,
  ◌==◌,
  nat_lt,
  Bool,
  true,
  false,
  refl,
  sym,
  ap,
  ◌∙◌,
  subst,
  arith,
  rules,
  tests,
  ℤ,
  pos,
  negsuc,
  neg_ℤ,
  ◌+ℤ◌,
  ◌-ℤ◌,
  ◌<ℤ◌,
  Option,
  None,
  Some,
  if◌then◌else◌,
}
use Rattle.std.specs.Prelude.{int_le}
use Rattle.std.proofs.lemmas.Bool.Decides.{nat_tests}
use Rattle.jiff.specs.Words.{IsEpochDay, days_in_month}
use Rattle.jiff_core.specs.Calendar.{IsCivilDate, days_from_civil}
use Rattle.jiff_core.specs.declared.civil.date.Date.{Date as Plain}
use Rattle.jiff_core.proofs.SignedLemmas.{signed_arith}
use Rattle.jiff_core.proofs.CalendarLemmas.{days_in_month_bounds}
use Rattle.jiff_core.proofs.DateLemmas.{
  days_from_civil-day,
  days_from_civil-next_month,
  days_from_civil-next_year,
  days_from_civil-min,
  days_from_civil-max,
  epoch_day_injective,
  epoch_day_range,
  weekday_number-day,
}
use Rattle.tui_calendar.specs.Month.{
  DateData,
  IsDay,
  IsMonth,
  after_sunday,
  date_of,
  days_of,
  leading_days_of,
  nth_after,
  nth_before,
  place_of,
  place_of_day,
  start_of,
  weeks_of,
}

same_parts : (a b : DateData) → a.year ≡ b.year → a.month ≡ b.month → a.day ≡ b.day → Some a ≡ Some b
same_parts a b x y z = let e : date_of a.year a.month a.day ≡ date_of b.year b.month b.day = cc in ap (λ (d : DateData). Some d) e

-- two dates of the same day are equal
pub day_once : (day : ℤ) (a b : Option DateData) → IsDay day a → IsDay day b → a ≡ b
day_once day None None p q = refl
day_once day (Some a) None p q =
    let x : Plain = record { year = a.year; month = a.month; day = a.day; year_in = p.0.0; month_in = p.0.1; day_in = p.0.2 } in
    absurd (q (subst IsEpochDay p.1 (epoch_day_range x)))
day_once day None (Some b) p q =
    let y : Plain = record { year = b.year; month = b.month; day = b.day; year_in = q.0.0; month_in = q.0.1; day_in = q.0.2 } in
    absurd (p (subst IsEpochDay q.1 (epoch_day_range y)))
day_once day (Some a) (Some b) p q =
    let x : Plain = record { year = a.year; month = a.month; day = a.day; year_in = p.0.0; month_in = p.0.1; day_in = p.0.2 } in
    let y : Plain = record { year = b.year; month = b.month; day = b.day; year_in = q.0.0; month_in = q.0.1; day_in = q.0.2 } in
    let same = epoch_day_injective x y (p.1 ∙ sym q.1) in
    same_parts a b same.0 same.1 same.2

december : (year : ℤ) (n : ℕ) (b : Bool) → int_le year (negsuc 9998) ≡ b → IsCivilDate year 1 1 → 1 ≤ n → n ≤ 28 →
    IsDay (days_from_civil year 1 1 -ℤ pos n) (if b then None else Some (date_of (year -ℤ pos 1) 12 (32 - n)))
december year n true e c low high =
    let first : year ≡ neg_ℤ (pos 9999) = search (rules, tests) in
    rw first (λ day. omega (arith, signed_arith, days_from_civil-min, day.0))
december year n false e c low high =
    let above : negsuc 9998 <ℤ year = search (rules, tests) in
    let next = days_from_civil-next_year (year -ℤ pos 1) year (omega (arith, signed_arith)) (omega (arith, signed_arith)) in
    let within = days_from_civil-day (year -ℤ pos 1) 12 31 (32 - n) (omega arith) (omega arith) in
    (((omega (arith, signed_arith), omega (arith, signed_arith)), (omega arith, omega arith), (omega arith, omega arith)), omega (arith, signed_arith, next, within))

earlier : (year : ℤ) (month n : ℕ) (b : Bool) → (month == 1) ≡ b → IsCivilDate year month 1 → 1 ≤ n → n ≤ 28 →
    IsDay (days_from_civil year month 1 -ℤ pos n)
    (if b then (if int_le year (negsuc 9998) then None else Some (date_of (year -ℤ pos 1) 12 (32 - n)))
    else Some (date_of year (month - 1) (days_in_month year (month - 1) + 1 - n)))
earlier year month n true e c low high =
    let january : month ≡ 1 = grind (arith, nat_tests) in
    rw january (december year n (int_le year (negsuc 9998)) refl (rw january at c) low high)
earlier year month n false e c low high =
    let month_low : 1 ≤ month = c.1.0 in
    let month_high : month ≤ 12 = c.1.1 in
    let other : (month ≡ 1 → ⊥) = λ one. grind (arith, nat_tests) in
    let long = days_in_month_bounds year (month - 1) in
    let back : month - 1 + 1 ≡ month = omega arith in
    let next = rw back at (days_from_civil-next_month year (month - 1) (days_in_month year (month - 1)) (omega arith) refl) in
    let within = days_from_civil-day year (month - 1) (days_in_month year (month - 1)) (days_in_month year (month - 1) + 1 - n) (omega arith) (omega arith) in
    ((c.0, (omega arith, omega arith), (omega arith, omega arith)), omega (arith, signed_arith, next, within, long))

-- the days before the first of a month
pub before_is : (year : ℤ) (month n : ℕ) → IsCivilDate year month 1 → 1 ≤ n → n ≤ 28 → IsDay (days_from_civil year month 1 -ℤ pos n) (nth_before year month n)
before_is year month n c low high = earlier year month n (month == 1) refl c low high

january : (year : ℤ) (n : ℕ) (b : Bool) → int_le (pos 9999) year ≡ b → IsCivilDate year 12 1 → 1 ≤ n → n ≤ 28 →
    IsDay (days_from_civil year 12 31 +ℤ pos n) (if b then None else Some (date_of (year +ℤ pos 1) 1 n))
january year n true e c low high =
    let last : year ≡ pos 9999 = search (rules, tests) in
    rw last (λ day. omega (arith, signed_arith, days_from_civil-max, day.1))
january year n false e c low high =
    let below : year <ℤ pos 9999 = search (rules, tests) in
    let next = days_from_civil-next_year year (year +ℤ pos 1) (omega (arith, signed_arith)) refl in
    let within = days_from_civil-day (year +ℤ pos 1) 1 1 n (omega arith) low in
    (((omega (arith, signed_arith), omega (arith, signed_arith)), (omega arith, omega arith), (low, omega arith)), omega (arith, signed_arith, next, within))

later : (year : ℤ) (month n : ℕ) (b : Bool) → (month == 12) ≡ b → IsCivilDate year month 1 → 1 ≤ n → n ≤ 28 →
    IsDay (days_from_civil year month (days_in_month year month) +ℤ pos n)
    (if b then (if int_le (pos 9999) year then None else Some (date_of (year +ℤ pos 1) 1 n)) else Some (date_of year (month + 1) n))
later year month n true e c low high =
    let december : month ≡ 12 = grind (arith, nat_tests) in
    rw december (january year n (int_le (pos 9999) year) refl (rw december at c) low high)
later year month n false e c low high =
    let month_low : 1 ≤ month = c.1.0 in
    let month_high : month ≤ 12 = c.1.1 in
    let other : (month ≡ 12 → ⊥) = λ one. grind (arith, nat_tests) in
    let long = days_in_month_bounds year month in
    let longer = days_in_month_bounds year (month + 1) in
    let next = days_from_civil-next_month year month (days_in_month year month) month_low refl in
    let within = days_from_civil-day year (month + 1) 1 n (omega arith) low in
    ((c.0, (omega arith, omega arith), (low, omega arith)), omega (arith, signed_arith, next, within))

-- the days after the last of a month
pub after_is : (year : ℤ) (month n : ℕ) → IsCivilDate year month 1 → 1 ≤ n → n ≤ 28 →
    IsDay (days_from_civil year month (days_in_month year month) +ℤ pos n) (nth_after year month n)
after_is year month n c low high = later year month n (month == 12) refl c low high

leading_days_bound : (d : DateData) → leading_days_of d < 7
unfolding leading_days_of
leading_days_bound d = omega arith

placed : (d : DateData) (l n i : ℕ) (a b : Bool) → nat_lt i l ≡ a → nat_lt i (l + n) ≡ b → l < 7 → n ≡ days_of d → i < 7 * ((l + n + 6) / 7) → IsCivilDate d.year d.month 1 →
    IsDay (days_from_civil d.year d.month 1 -ℤ pos l +ℤ pos i)
    (if a then nth_before d.year d.month (l - i) else (if b then Some (date_of d.year d.month (i + 1 - l)) else nth_after d.year d.month (i + 1 - (l + n))))
placed d l n i true b e f small whole inside c =
    let lt : i < l = grind (arith, nat_tests) in
    let same : days_from_civil d.year d.month 1 -ℤ pos (l - i) ≡ days_from_civil d.year d.month 1 -ℤ pos l +ℤ pos i = omega (arith, signed_arith) in
    subst (λ day. IsDay day (nth_before d.year d.month (l - i))) same (before_is d.year d.month (l - i) c (omega arith) (omega arith))
placed d l n i false true e f small whole inside c =
    let le : l ≤ i = grind (arith, nat_tests) in
    let lt : i < l + n = grind (arith, nat_tests) in
    ((c.0, c.1, (omega arith, omega arith)), omega (arith, signed_arith, days_from_civil-day d.year d.month 1 (i + 1 - l) (omega arith) (omega arith)))
placed d l n i false false e f small whole inside c =
    let le : l + n ≤ i = grind (arith, nat_tests) in
    let long = days_in_month_bounds d.year d.month in
    let last = days_from_civil-day d.year d.month 1 (days_of d) (omega arith) (omega arith) in
    let same : days_from_civil d.year d.month (days_of d) +ℤ pos (i + 1 - (l + n)) ≡ days_from_civil d.year d.month 1 -ℤ pos l +ℤ pos i = omega (arith, signed_arith) in
    subst (λ day. IsDay day (nth_after d.year d.month (i + 1 - (l + n)))) same (after_is d.year d.month (i + 1 - (l + n)) c (omega arith) (omega arith))

-- each place has the date of its day
pub place_is : (d : DateData) (i : ℕ) → IsCivilDate d.year d.month 1 → i < 7 * weeks_of d → IsDay (start_of d +ℤ pos i) (place_of d i)
unfolding place_of
place_is d i c inside = placed d (leading_days_of d) (days_of d) i (nat_lt i (leading_days_of d)) (nat_lt i (leading_days_of d + days_of d)) refl refl (leading_days_bound d) refl inside c

-- the date that is found for a place is the date of that place
pub place_found : (d : DateData) (i : ℕ) (found : Option DateData) → IsCivilDate d.year d.month 1 → i < 7 * weeks_of d → IsDay (start_of d +ℤ pos i) found → found ≡ place_of d i
place_found d i found c inside h = day_once (start_of d +ℤ pos i) found (place_of d i) h (place_is d i c inside)

day_placed : (d : DateData) (k : ℕ) → 1 ≤ k → k ≤ days_of d → place_of d (place_of_day d k) ≡ Some (date_of d.year d.month k)
unfolding place_of
day_placed d k low high =
    let early : nat_lt (leading_days_of d + k - 1) (leading_days_of d) ≡ false = grind (arith, nat_tests) in
    let within : nat_lt (leading_days_of d + k - 1) (leading_days_of d + days_of d) ≡ true = grind (arith, nat_tests) in
    let day : leading_days_of d + k - 1 + 1 - leading_days_of d ≡ k = omega arith in
    rw (early, within, day) refl

abbrev year_of : Option DateData → ℤ
year_of None = pos 0
year_of (Some d) = d.year

abbrev month_of : Option DateData → ℕ
month_of None = 0
month_of (Some d) = d.month

abbrev day_of : Option DateData → ℕ
day_of None = 0
day_of (Some d) = d.day

not_before : (year : ℤ) (month n k : ℕ) (a b : Bool) → (month == 1) ≡ a → 1 ≤ month →
    (if a then (if b then None else Some (date_of (year -ℤ pos 1) 12 (32 - n))) else Some (date_of year (month - 1) (days_in_month year (month - 1) + 1 - n))) ≡ Some (date_of year month k) → ⊥
not_before year month n k true true e low h = absurd (search rules)
not_before year month n k true false e low h = let years : year -ℤ pos 1 ≡ year = ap year_of h in absurd (omega (arith, signed_arith))
not_before year month n k false b e low h = let months : month - 1 ≡ month = ap month_of h in absurd (omega arith)

not_after : (year : ℤ) (month n k : ℕ) (a b : Bool) →
    (if a then (if b then None else Some (date_of (year +ℤ pos 1) 1 n)) else Some (date_of year (month + 1) n)) ≡ Some (date_of year month k) → ⊥
not_after year month n k true true h = absurd (search rules)
not_after year month n k true false h = let years : year +ℤ pos 1 ≡ year = ap year_of h in absurd (omega (arith, signed_arith))
not_after year month n k false b h = let months : month + 1 ≡ month = ap month_of h in absurd (omega arith)

placed_once : (d : DateData) (l n i k : ℕ) (a b : Bool) → nat_lt i l ≡ a → 1 ≤ d.month →
    (if a then nth_before d.year d.month (l - i) else (if b then Some (date_of d.year d.month (i + 1 - l)) else nth_after d.year d.month (i + 1 - (l + n)))) ≡ Some (date_of d.year d.month k) →
    i ≡ l + k - 1
placed_once d l n i k true b e low h = absurd (not_before d.year d.month (l - i) k (d.month == 1) (int_le d.year (negsuc 9998)) refl low h)
placed_once d l n i k false true e low h =
    let le : l ≤ i = grind (arith, nat_tests) in
    let day : i + 1 - l ≡ k = ap day_of h in
    omega arith
placed_once d l n i k false false e low h = absurd (not_after d.year d.month (i + 1 - (l + n)) k (d.month == 12) (int_le (pos 9999) d.year) h)

day_once_placed : (d : DateData) (i k : ℕ) → 1 ≤ d.month → place_of d i ≡ Some (date_of d.year d.month k) → i ≡ place_of_day d k
unfolding place_of
day_once_placed d i k low h = placed_once d (leading_days_of d) (days_of d) i k (nat_lt i (leading_days_of d)) (nat_lt i (leading_days_of d + days_of d)) refl low h

in_column : (d : DateData) (k : ℕ) → 1 ≤ k → place_of_day d k % 7 ≡ after_sunday (days_from_civil d.year d.month k)
unfolding leading_days_of
in_column d k low = omega (arith, weekday_number-day d.year d.month 1 k (omega arith) low)

row_needed : (l n row : ℕ) → l < 7 → row < (l + n + 6) / 7 → 1 ≤ n → (k : ℕ) × (1 ≤ k) × (k ≤ n) × ((l + k - 1) / 7 ≡ row)
row_needed l n zero small inside some = (1, omega arith, omega arith, omega arith)
row_needed l n (suc row) small inside some = (7 * suc row + 1 - l, omega arith, omega arith, omega arith)

-- how a month is arranged in its weeks
pub month_is : (d : DateData) → IsCivilDate d.year d.month 1 → IsMonth d
month_is d c = record {
  places = λ i inside. place_is d i c inside;
  days = λ k low high. day_placed d k low high;
  once = λ i k h. day_once_placed d i k c.1.0 h;
  column = λ k low high. in_column d k low;
  inside = λ k low high. omega arith;
  needed = λ row inside. row_needed (leading_days_of d) (days_of d) row (leading_days_bound d) inside (omega (arith, days_in_month_bounds d.year d.month));
}

-- the year and the month of a date have a first day
pub first_of : (d : Plain) → IsCivilDate d.year d.month 1
first_of d = (d.year_in, d.month_in, (omega arith, omega (arith, days_in_month_bounds d.year d.month)))
