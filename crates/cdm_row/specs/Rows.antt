-- The Row of a flight, and the Rows of a day.
use Rattle.std.specs.Prelude.{◌≡◌, ℕ, List, IsSortedByKey, map, Option, None, Some}
use Rattle.std.specs.List.{IsDistinct, filter_map}
use Rattle.std.specs.Option.{option_and_then, option_map}
use Rattle.cdm_flight.specs.Journal.{flight_of, taxi_of}
use Rattle.cdm_flight.specs.Names.{name_cmp, same_name}
use Rattle.cdm_flight.specs.declared.flight.Flight.{Flight}
use Rattle.cdm_sequence.specs.Aims.{exot_to}
use Rattle.cdm_sequence.specs.declared.plan.Plan.{Plan}
use Rattle.cdm_sequence.specs.declared.rule.Rule.{Rule}
use Rattle.cdm_sequence.specs.declared.slot.Mark.{Mark}
use Rattle.cdm_sequence.specs.declared.slot.Mark.TheVariants as mark
use Rattle.cdm_sequence.specs.declared.slot.Slot.{Slot}
use Rattle.cdm_plan.specs.Day.{DayRecord}
use Rattle.cdm_view.specs.Standings.{AreStandings, flight_name}
use Rattle.cdm_view.specs.declared.standing.Standing.{Standing}
use Rattle.cdm_view.specs.declared.standing.Standing.TheVariants.{OnRunway, Blocked, Cancelled}
use Rattle.cdm_row.specs.declared.row.Row.{Row}
use Rattle.cdm_row.specs.declared.row.RowStatus.{RowStatus}
use Rattle.cdm_row.specs.declared.row.RowStatus.TheVariants as status

-- The Row of a flight.

-- how far the flight of a slot has come
abbrev pub status_by : Mark → RowStatus
status_by mark.Planned = status.Planned
status_by mark.OffBlock = status.OffBlock
status_by mark.Airborne = status.Airborne

abbrev pub status_of : Standing → RowStatus
status_of (OnRunway runway slot) = status_by slot.mark
status_of (Blocked flight) = status.Blocked
status_of (Cancelled name) = status.Cancelled

abbrev pub slot_of : Standing → Option Slot
slot_of (OnRunway runway slot) = Some slot
slot_of standing = None

abbrev pub rule_of : Standing → Option Rule
rule_of (Blocked flight) = Some flight.rule
rule_of standing = None

-- the taxi-out time: that of a slot; of a blocked flight that from its stand to its runway, if it is known
abbrev pub told_exot : DayRecord → Flight → Standing → Option ℕ
told_exot d f (OnRunway runway slot) = Some slot.exot
told_exot d f (Blocked flight) = option_and_then (exot_to (taxi_of d.airport d.journal) f) f.runway
told_exot d f (Cancelled name) = None

-- what is told of a flight that stands so
unfoldable pub row_of : DayRecord → Flight → Standing → Row
row_of d f s = record {
  flight = f.name;
  status = status_of s;
  runway = f.runway;
  stand = f.stand;
  priority = f.priority;
  group = f.group;
  tobt = f.tobt;
  exot = told_exot d f s;
  ctot = f.ctot;
  tsat = option_map (λ slot. slot.tsat) (slot_of s);
  ttot = option_map (λ slot. slot.ttot) (slot_of s);
  delay = option_and_then (λ slot. slot.delay) (slot_of s);
  rule = rule_of s;
}

-- The Rows of a day.

-- the Row of a standing, from what the day says of its flight
abbrev pub standing_row : DayRecord → Standing → Option Row
standing_row d s = option_map (λ f. row_of d f s) (flight_of d.airport d.journal (flight_name s))

-- the Rows of all known flights of a day with this plan, by name
pub record AreRows (d : DayRecord) (plan : Plan) (rows : List Row) : Type 0 where
  pub standings : List Standing
  pub stand : AreStandings d plan standings
  pub told : rows ≡ filter_map (standing_row d) standings

-- what Rows keep: they are by name, and no two are of one flight
pub record KeepsRows (rows : List Row) : Type 0 where
  pub by_name : IsSortedByKey (λ row. row.flight) name_cmp rows
  pub apart : IsDistinct same_name (map (λ row. row.flight) rows)
