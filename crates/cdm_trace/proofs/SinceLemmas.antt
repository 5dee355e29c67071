-- A text without the form of a time has its own fault.
use Rattle.std.{proofs.Common.{◌≡◌, ℕ, Bool, true, false, ℤ, pos, negsuc, List, Ok, Err, if◌then◌else◌, refl}, specs.Prelude.nat_le}
use Rattle.cdm_time.specs.{Times.{is_time_text, minute_up_to, minutes_between, up_to}, declared.calendar.CalendarDate.CalendarDate}
use Rattle.cdm_time.specs.declared.day.TimeFault.TheVariants as fault

-- of a time it is never told
not-text : (last : ℕ) (z : ℤ) → up_to last z ≡ Err fault.Text → ⊥
not-text last (pos m) h = by (nat_le m last) h
  where
    by : (b : Bool) → (if b then Ok m else Err fault.Range) ≡ Err fault.Text → ⊥
    by true h = cc h
    by false h = cc h
not-text last (negsuc m) h = cc h

pub no_time : (day : CalendarDate) (text : List ℕ) → minute_up_to 2879 day text ≡ Err fault.Text → is_time_text text ≡ false
unfolding minute_up_to
no_time day text h = by (is_time_text text) h
  where
    by : (b : Bool) → (if b then up_to 2879 (minutes_between day text) else Err fault.Text) ≡ Err fault.Text → b ≡ false
    by true h = absurd (not-text 2879 (minutes_between day text) h)
    by false h = refl

module _ (day : CalendarDate) (text : List ℕ) where
  pub a_time : (m : ℕ) → minute_up_to 2879 day text ≡ Ok m → is_time_text text ≡ true
  unfolding minute_up_to
  a_time m h = by (is_time_text text) h
    where
      by : (b : Bool) → (if b then up_to 2879 (minutes_between day text) else Err fault.Text) ≡ Ok m → b ≡ true
      by true h = refl
      by false h = cc h

  pub far_time : minute_up_to 2879 day text ≡ Err fault.Range → is_time_text text ≡ true
  unfolding minute_up_to
  far_time h = by (is_time_text text) h
    where
      by : (b : Bool) → (if b then up_to 2879 (minutes_between day text) else Err fault.Text) ≡ Err fault.Range → b ≡ true
      by true h = refl
      by false h = cc h
