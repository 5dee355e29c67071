-- The day after another one, by the text of its first minute.
use Rattle.std.proofs.Common.{◌≡◌, ℕ, ◌+◌, ◌/◌, ◌%◌, List, take, ap, arith, get_or}
use Rattle.cdm_time.specs.{Times.{date_text, next_date, time_text}, declared.calendar.CalendarDate.CalendarDate}

-- a number by its digits
by_digits : (m n : ℕ) → 48 + m / 10 ≡ 48 + n / 10 → 48 + m % 10 ≡ 48 + n % 10 → m ≡ n
by_digits m n tens ones = omega (arith, tens, ones)

by_hundreds : (m n : ℕ) → m / 100 ≡ n / 100 → m % 100 ≡ n % 100 → m ≡ n
by_hundreds m n hundreds rest = omega (arith, hundreds, rest)

by_fields : (d e : CalendarDate) → d.year ≡ e.year → d.month ≡ e.month → d.day ≡ e.day → d ≡ e
by_fields d e year month day = λ i. record { year = year i; month = month i; day = day i }

-- dates with the same text
same_date : (d e : CalendarDate) → date_text d ≡ date_text e → d ≡ e
unfolding date_text
same_date d e same =
    let byte_at : (k : ℕ) → get_or (date_text d) k 0 ≡ get_or (date_text e) k 0 = λ k. ap (λ (l : List ℕ). get_or l k 0) same in
    by_fields d e
    (by_hundreds d.year e.year (by_digits (d.year / 100) (e.year / 100) (byte_at 0) (byte_at 1)) (by_digits (d.year % 100) (e.year % 100) (byte_at 2) (byte_at 3)))
    (by_digits d.month e.month (byte_at 5) (byte_at 6))
    (by_digits d.day e.day (byte_at 8) (byte_at 9))

pub next_by_text : (day next : CalendarDate) → time_text next 0 ≡ time_text day 1440 → next ≡ next_date day
unfolding time_text date_text
next_by_text day next same = same_date next (next_date day) (ap (λ (l : List ℕ). take 10 l) same)

-- the day after has this text
pub text_of_next : (day next : CalendarDate) → next ≡ next_date day → time_text next 0 ≡ time_text day 1440
unfolding time_text
text_of_next day next is = ap (λ (d : CalendarDate). time_text d 0) is
