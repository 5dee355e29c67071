-- The day after a date has the next day number.
use Rattle.std.proofs.Common.{◌≡◌, ◌≤◌, ◌+◌, ℕ, Bool, true, false, ◌&&◌, nat_lt, nat_le, arith, ◌∙◌, ap, pos, ◌+ℤ◌, refl}
use Rattle.std.proofs.lemmas.{Bool.and_parts, Bool.Decides.nat_tests, Int.ints}
use Rattle.jiff.{specs.Words.days_in_month, proofs.Family.{days_from_civil-day, days_from_civil-next_month, days_from_civil-next_year}}
use Rattle.cdm_time.specs.{Dates.{day_number, is_date, is_first_day}, Times.next_date, declared.calendar.CalendarDate.CalendarDate}

-- what the calendar asks of a date, fact by fact
record IsCalendarDay (d : CalendarDate) : Type 0 where
  month_from : 1 ≤ d.month
  month_to : d.month ≤ 12
  day_from : 1 ≤ d.day
  day_to : d.day ≤ days_in_month (pos d.year) d.month

IsCalendarDay-from_is_date : (d : CalendarDate) → is_date d ≡ true → IsCalendarDay d
IsCalendarDay-from_is_date d date =
    let p = parts d.month d.day (days_in_month (pos d.year) d.month) date in
    record { month_from = p.0; month_to = p.1; day_from = p.2; day_to = p.3 }
  where
    parts : (month day last : ℕ) → (nat_le 1 month && nat_le month 12 && nat_le 1 day && nat_le day last) ≡ true
        → (1 ≤ month) × (month ≤ 12) × (1 ≤ day) × (day ≤ last)
    parts month day last all = grind (arith, nat_tests)

-- by cases: in the month, at a month's end, at the year's end
pub day_number-next_date : (d : CalendarDate) → is_date d ≡ true → day_number (next_date d) ≡ day_number d +ℤ pos 1
day_number-next_date d date = by (nat_lt d.day (days_in_month (pos d.year) d.month)) refl (nat_lt d.month 12) refl
  where
    by : (in_month : Bool) → nat_lt d.day (days_in_month (pos d.year) d.month) ≡ in_month → (in_year : Bool) → nat_lt d.month 12 ≡ in_year
        → day_number (next_date d) ≡ day_number d +ℤ pos 1
    by true e b f =
        let same = days_from_civil-day (pos d.year) d.month d.day (d.day + 1) (IsCalendarDay-from_is_date d date).day_from (omega arith) in
        rw e (omega (arith, ints, same))
    by false e true f =
        let p = IsCalendarDay-from_is_date d date in
        let last : d.day ≡ days_in_month (pos d.year) d.month = grind (arith, nat_tests, p.day_to) in
        rw (e, f) (days_from_civil-next_month (pos d.year) d.month d.day p.month_from last)
    by false e false f =
        let p = IsCalendarDay-from_is_date d date in
        let december : d.month ≡ 12 = grind (arith, nat_tests, p.month_to) in
        let last : d.day ≡ days_in_month (pos d.year) d.month = grind (arith, nat_tests, p.day_to) in
        let day : d.day ≡ 31 = last ∙ ap (days_in_month (pos d.year)) december in
        let next = days_from_civil-next_year (pos d.year) (pos (d.year + 1)) (omega (arith, ints)) (omega (arith, ints)) in
        rw (e, f, december, day) next

-- a first day is a date
pub is_date-first_day : (d : CalendarDate) → is_first_day d ≡ true → is_date d ≡ true
is_date-first_day d h = (and_parts (nat_le 2000 d.year && nat_le d.year 2099) (is_date d) h).1
