-- Minutes of the horizon, which begins on a day at 00:00.
use Rattle.std.specs.Prelude.{ℕ, ◌+◌, ◌*◌, ◌/◌, ◌%◌, Bool, ◌&&◌, ◌==◌, nat_le, nat_lt, List, [], ◌∷◌, ◌++◌, length, slice_index, slice_range, ℤ, pos, negsuc, ◌+ℤ◌, ◌-ℤ◌, ◌*ℤ◌, Result, Ok, Err, if◌then◌else◌}
use Rattle.std.specs.Str.{byte}
use Rattle.jiff.specs.Words.{days_in_month}
use Rattle.cdm_time.specs.Dates.{date_in, day_number, is_date_text, is_first_day}
use Rattle.cdm_time.specs.Digits.{are_digits, number_in, two_digits}
use Rattle.cdm_time.specs.declared.calendar.CalendarDate.{CalendarDate}
use Rattle.cdm_time.specs.declared.day.TimeFault.{TimeFault}
use Rattle.cdm_time.specs.declared.day.TimeFault.TheVariants as fault

-- the day that a text names
unfoldable pub day_of : List ℕ → Result CalendarDate TimeFault
day_of text = if is_date_text text then (if is_first_day (date_in text) then Ok (date_in text) else Err fault.Range) else Err fault.Text

-- the parts of a text of the form YYYY-MM-DDTHH:MMZ
abbrev pub hour_in : List ℕ → ℕ
hour_in text = number_in (slice_range text 11 13)

abbrev pub minute_in : List ℕ → ℕ
minute_in text = number_in (slice_range text 14 16)

-- a text of the form YYYY-MM-DDTHH:MMZ with a date of the calendar and a time of the day
unfoldable pub is_time_text : List ℕ → Bool
is_time_text text = (length text == 17) && (slice_index text 10 == byte "T") && are_digits (slice_range text 11 13)
    && (slice_index text 13 == byte ":") && are_digits (slice_range text 14 16) && (slice_index text 16 == byte "Z")
    && is_date_text (slice_range text 0 10) && nat_lt (hour_in text) 24 && nat_lt (minute_in text) 60

-- the minutes from the day's start to the time that a text names
unfoldable pub minutes_between : CalendarDate → List ℕ → ℤ
minutes_between day text = (pos 1440 *ℤ (day_number (date_in (slice_range text 0 10)) -ℤ day_number day)) +ℤ pos (60 * hour_in text + minute_in text)

-- a number of minutes from 0 to the last
abbrev pub up_to : ℕ → ℤ → Result ℕ TimeFault
up_to last (pos m) = if nat_le m last then Ok m else Err fault.Range
up_to last (negsuc m) = Err fault.Range

-- the minute of the horizon that a text names, up to the last that it may be
unfoldable pub minute_up_to : ℕ → CalendarDate → List ℕ → Result ℕ TimeFault
minute_up_to last day text = if is_time_text text then up_to last (minutes_between day text) else Err fault.Text

-- the day after a date
abbrev pub next_date : CalendarDate → CalendarDate
next_date d =
    if nat_lt d.day (days_in_month (pos d.year) d.month) then record d { day = d.day + 1 }
    else if nat_lt d.month 12 then record d { month = d.month + 1; day = 1 }
    else record { year = d.year + 1; month = 1; day = 1 }

-- the date of a minute of the horizon
abbrev pub date_at : CalendarDate → ℕ → CalendarDate
date_at day minute = if nat_lt minute 1440 then day else next_date day

-- a minute as DDHHMM
unfoldable pub stamp : CalendarDate → ℕ → List ℕ
stamp day minute = two_digits (date_at day minute).day ++ two_digits (minute % 1440 / 60) ++ two_digits (minute % 60)

-- a date as YYYY-MM-DD
unfoldable pub date_text : CalendarDate → List ℕ
date_text d = two_digits (d.year / 100) ++ two_digits (d.year % 100) ++ byte "-" ∷ two_digits d.month ++ byte "-" ∷ two_digits d.day

-- a minute as YYYY-MM-DDTHH:MMZ, the form in which files give times
unfoldable pub time_text : CalendarDate → ℕ → List ℕ
time_text day minute =
    date_text (date_at day minute) ++ byte "T" ∷ two_digits (minute % 1440 / 60) ++ byte ":" ∷ two_digits (minute % 60) ++ byte "Z" ∷ []
