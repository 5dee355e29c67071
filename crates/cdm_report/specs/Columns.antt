-- The columns of a flight's line.
use Rattle.std.specs.Prelude.{ℕ, ◌-◌, List, [], ◌∷◌, ◌++◌, length, replicate, codes, Option, Some}
use Rattle.std.specs.Fmt.{decimal}
use Rattle.std.specs.List.{join_with_byte}
use Rattle.std.specs.Option.{option_map_or}
use Rattle.cdm_time.specs.declared.calendar.CalendarDate.{CalendarDate}
use Rattle.cdm_time.specs.Times.{stamp}
use Rattle.cdm_sequence.specs.declared.slot.Mark.{Mark}
use Rattle.cdm_sequence.specs.declared.slot.Mark.TheVariants.{Planned, OffBlock, Airborne}
use Rattle.cdm_sequence.specs.declared.slot.Slot.{Slot}

-- a text on the left of a column, blanks behind it
unfoldable pub left_in : ℕ → List ℕ → List ℕ
left_in width text = text ++ replicate (width - length text) 32

-- a text on the right of a column, blanks before it
unfoldable pub right_in : ℕ → List ℕ → List ℕ
right_in width text = replicate (width - length text) 32 ++ text

-- a minute as DDHHMM, or dashes where there is none
unfoldable pub time_column : CalendarDate → Option ℕ → List ℕ
time_column day minute = option_map_or (stamp day) minute (codes "------")

-- the letter of a flight that is planned, off-block or airborne
unfoldable pub mark_letter : Mark → List ℕ
mark_letter Planned = codes "P"
mark_letter OffBlock = codes "O"
mark_letter Airborne = codes "A"

-- a delay in minutes, or dashes where there is none
unfoldable pub delay_column : Option ℕ → List ℕ
delay_column delay = option_map_or (λ minutes. right_in 4 (decimal minutes)) delay (codes "----")

-- a flight's line: name, TOBT, EXOT, CTOT, TSAT, TTOT, letter and delay, with one blank between them
unfoldable pub flight_line : CalendarDate → Slot → List ℕ
flight_line day slot = join_with_byte 32 (
    left_in 7 slot.name ∷ time_column day slot.tobt ∷ right_in 4 (decimal slot.exot) ∷ time_column day slot.ctot
    ∷ time_column day (Some slot.tsat) ∷ time_column day (Some slot.ttot) ∷ mark_letter slot.mark ∷ delay_column slot.delay ∷ [])
