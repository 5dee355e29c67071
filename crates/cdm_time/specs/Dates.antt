-- Dates of the Gregorian calendar, taken back without end.
use Rattle.std.specs.Prelude.{ℕ, Bool, ◌&&◌, ◌==◌, nat_le, List, length, slice_index, slice_range, ℤ, pos}
use Rattle.std.specs.Str.{byte}
use Rattle.jiff.specs.Words.{days_in_month}
use Rattle.jiff_core.specs.Calendar.{days_from_civil}
use Rattle.cdm_time.specs.Digits.{are_digits, number_in}
use Rattle.cdm_time.specs.declared.calendar.CalendarDate.{CalendarDate}

-- the calendar has this date
abbrev pub is_date : CalendarDate → Bool
is_date d = nat_le 1 d.month && nat_le d.month 12 && nat_le 1 d.day && nat_le d.day (days_in_month (pos d.year) d.month)

-- the day number of a date, 0 for 1 January 1970
abbrev pub day_number : CalendarDate → ℤ
day_number d = days_from_civil (pos d.year) d.month d.day

-- the date in a text of the form YYYY-MM-DD
abbrev pub date_in : List ℕ → CalendarDate
date_in text = record { year = number_in (slice_range text 0 4); month = number_in (slice_range text 5 7); day = number_in (slice_range text 8 10) }

-- a text of the form YYYY-MM-DD with a date of the calendar
unfoldable pub is_date_text : List ℕ → Bool
is_date_text text = (length text == 10) && are_digits (slice_range text 0 4) && (slice_index text 4 == byte "-")
    && are_digits (slice_range text 5 7) && (slice_index text 7 == byte "-") && are_digits (slice_range text 8 10) && is_date (date_in text)

-- a date of the years 2000 to 2099, on which a horizon may begin
abbrev pub is_first_day : CalendarDate → Bool
is_first_day d = nat_le 2000 d.year && nat_le d.year 2099 && is_date d
