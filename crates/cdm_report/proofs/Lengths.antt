-- How long a flight's line is.
use Rattle.std.proofs.Common.{ℕ, ◌≡◌, ◌+◌, ◌<◌, ◌≤◌, List, [], ◌∷◌, length, Option, Some, None, refl, arith, length-append}
use Rattle.std.{proofs.lemmas.List.length-replicate, proofs.lemmas.Fmt.length-decimal-le, specs.Option.ForSome, specs.Fmt.decimal}
use Rattle.std.specs.List.{join_with_byte}
use Rattle.cdm_time.specs.{declared.calendar.CalendarDate.CalendarDate, Times.stamp}
use Rattle.cdm_sequence.specs.declared.slot.{Mark.Mark, Mark.TheVariants.{Planned, OffBlock, Airborne}, Slot.Slot}
use Rattle.cdm_report.specs.Columns.{left_in, right_in, time_column, delay_column, mark_letter, flight_line}

length-left_in : (width : ℕ) (text : List ℕ) → length text ≤ width → length (left_in width text) ≡ width
unfolding left_in
length-left_in width text short = simp (length-append, length-replicate) (omega arith)

length-right_in : (width : ℕ) (text : List ℕ) → length text ≤ width → length (right_in width text) ≡ width
unfolding right_in
length-right_in width text short = simp (length-append, length-replicate) (omega arith)

length-time_column : (day : CalendarDate) (minute : Option ℕ) → length (time_column day minute) ≡ 6
unfolding time_column stamp
length-time_column day None = refl
length-time_column day (Some minute) = refl

length-mark_letter : (mark : Mark) → length (mark_letter mark) ≡ 1
unfolding mark_letter
length-mark_letter Planned = refl
length-mark_letter OffBlock = refl
length-mark_letter Airborne = refl

-- a number below 2,880 has at most four digits
length-number : (n : ℕ) → n < 2880 → length (right_in 4 (decimal n)) ≡ 4
length-number n small = length-right_in 4 (decimal n) (length-decimal-le 4 n (omega arith) (omega arith) (omega arith))

length-delay_column : (delay : Option ℕ) → ForSome delay (λ d. d < 2880) → length (delay_column delay) ≡ 4
unfolding delay_column
length-delay_column None small = refl
length-delay_column (Some delay) small = length-number delay (small delay refl)

length-eight : (a b c d e f g h : List ℕ) → length (join_with_byte 32 (a ∷ b ∷ c ∷ d ∷ e ∷ f ∷ g ∷ h ∷ []))
    ≡ length a + (1 + (length b + (1 + (length c + (1 + (length d + (1 + (length e + (1 + (length f + (1 + (length g + (1 + length h)))))))))))))
length-eight a b c d e f g h = simp length-append (omega arith)

pub length-flight_line : (day : CalendarDate) (slot : Slot) → length slot.name ≤ 7 → slot.exot < 2880 → ForSome slot.delay (λ d. d < 2880) → length (flight_line day slot) ≡ 47
unfolding flight_line
length-flight_line day slot name exot delay =
    rw length-eight (rw (
      length-left_in 7 slot.name name,
      length-time_column day slot.tobt,
      length-number slot.exot exot,
      length-time_column day slot.ctot,
      length-time_column day (Some slot.tsat),
      length-time_column day (Some slot.ttot),
      length-mark_letter slot.mark,
      length-delay_column slot.delay delay,
    ) refl)
