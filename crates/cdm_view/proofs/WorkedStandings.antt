-- One line of each kind, written out.
use Rattle.std.{proofs.Common.◌≡◌, proofs.Common.None, proofs.Common.Some, proofs.Common.refl, specs.Prelude.codes, specs.Fmt.digits}
use Rattle.cdm_time.specs.{Times.stamp, declared.calendar.CalendarDate.CalendarDate}
use Rattle.cdm_flight.specs.declared.group.Group.TheVariants.{Medium}
use Rattle.cdm_sequence.specs.declared.{rule.Rule.TheVariants.Tobt, slot.Mark.TheVariants.Planned, slot.Slot.Slot}
use Rattle.cdm_report.specs.Columns.{delay_column, flight_line, left_in, mark_letter, right_in, time_column}
use Rattle.cdm_view.specs.{declared.standing.Standing.TheVariants.{OnRunway, Blocked, Cancelled}, Standings.standing_line}

abbrev day : CalendarDate
day = record { year = 2025; month = 3; day = 10 }

abbrev slot : Slot
slot = record {
  name = codes "AB1";
  tobt = Some 360;
  exot = 15;
  ctot = None;
  group = Medium;
  tsat = 362;
  ttot = 377;
  mark = Planned;
  delay = Some 2;
}

slot_told : standing_line day (OnRunway (codes "27L") slot) ≡ codes "SLOT 27L AB1     100600   15 ------ 100602 100617 P    2"
unfolding standing_line flight_line left_in right_in time_column mark_letter delay_column stamp digits
slot_told = refl

blocked_told : standing_line day (Blocked (record { name = codes "AB4"; rule = Tobt })) ≡ codes "BLOCKED AB4     TOBT"
unfolding standing_line left_in
blocked_told = refl

cancelled_told : standing_line day (Cancelled (codes "AB4")) ≡ codes "CANCELLED AB4"
unfolding standing_line
cancelled_told = refl
