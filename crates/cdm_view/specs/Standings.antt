-- Where the flights of a day stand, and where they stand otherwise than before.
use Rattle.std.specs.Prelude.{ℕ, Bool, true, false, not, ◌&&◌, List, [], ◌∷◌, ◌++◌, codes, filter, map, flat_map, Option, None, Some, if◌then◌else◌}
use Rattle.std.specs.Prelude.{IsPermutation, IsSortedByKey, nat_eq}
use Rattle.std.specs.Cmp.Lexicographic.{pointwise}
use Rattle.std.specs.List.{IsDistinct, concat, filter_map, list_any}
use Rattle.cdm_time.specs.declared.calendar.CalendarDate.{CalendarDate}
use Rattle.cdm_flight.specs.declared.flight.Status.{Status}
use Rattle.cdm_flight.specs.declared.flight.Status.TheVariants as status
use Rattle.cdm_flight.specs.Names.{name_cmp, same_name}
use Rattle.cdm_flight.specs.declared.flight.Flight.{Flight}
use Rattle.cdm_sequence.specs.declared.plan.Plan.{Plan}
use Rattle.cdm_sequence.specs.declared.plan.RunwayPlan.{RunwayPlan}
use Rattle.cdm_sequence.specs.Words.{rule_text}
use Rattle.cdm_plan.specs.Day.{DayRecord, flights_in}
use Rattle.cdm_plan.specs.DayPlan.{IsDayPlan, records_in}
use Rattle.cdm_report.specs.Columns.{flight_line, left_in}
use Rattle.cdm_view.specs.declared.standing.Standing.{Standing}
use Rattle.cdm_view.specs.declared.standing.Standing.TheVariants.{OnRunway, Blocked, Cancelled}

-- the flight that stands so
abbrev pub flight_name : Standing → List ℕ
flight_name (OnRunway runway slot) = slot.name
flight_name (Blocked flight) = flight.name
flight_name (Cancelled name) = name

-- where a flight stands, as a line without its end
unfoldable pub standing_line : CalendarDate → Standing → List ℕ
standing_line day (OnRunway runway slot) = concat (codes "SLOT " ∷ left_in 3 runway ∷ codes " " ∷ flight_line day slot ∷ [])
standing_line day (Blocked flight) = concat (codes "BLOCKED " ∷ left_in 7 flight.name ∷ codes " " ∷ rule_text flight.rule ∷ [])
standing_line day (Cancelled name) = codes "CANCELLED " ++ name

-- The standings of a day.

-- the slots of a runway
abbrev pub on_runway : RunwayPlan → List Standing
on_runway plan = map (OnRunway plan.runway) plan.slots

-- the flight won't depart
abbrev pub is_cancelled : Status → Bool
is_cancelled status.Cancelled = true
is_cancelled _ = false

-- the standing of a flight that is cancelled
abbrev pub cancelled : Flight → Option Standing
cancelled f = if is_cancelled f.status then Some (Cancelled f.name) else None

-- all standings of a day with this plan: its slots, its blocked flights, and the cancelled ones
abbrev pub standings_of : DayRecord → Plan → List Standing
standings_of d plan = flat_map on_runway plan.runways ++ map Blocked plan.blocked ++ filter_map cancelled (records_in d.airport d.journal)

-- these are all of them, by name, and each known flight has one
pub record AreStandings (d : DayRecord) (plan : Plan) (standings : List Standing) : Type 0 where
  pub all : IsPermutation (standings_of d plan) standings
  pub by_name : IsSortedByKey flight_name name_cmp standings
  pub each : IsPermutation (flights_in d.journal) (map flight_name standings)

-- what standings keep: they are by name, and no two are of one flight
pub record KeepsFlights (standings : List Standing) : Type 0 where
  pub by_name : IsSortedByKey flight_name name_cmp standings
  pub apart : IsDistinct same_name (map flight_name standings)

-- Changes.

-- the two are of one flight, and have one line
abbrev pub is_same_told : CalendarDate → Standing → Standing → Bool
is_same_told day s t = same_name (flight_name s) (flight_name t) && pointwise nat_eq (standing_line day s) (standing_line day t)

-- one of those told is of the flight, and has its line
abbrev pub is_told : CalendarDate → List Standing → Standing → Bool
is_told day told s = list_any (λ t. is_same_told day t s) told

-- the standings after that were not told before
abbrev pub changes : CalendarDate → List Standing → List Standing → List Standing
changes day before after = filter (λ s. not (is_told day before s)) after

-- the changes from a day with its plan to another: by name, the standings there that were not told before
pub record AreChanges (d : DayRecord) (plan : Plan) (next : DayRecord) (next_plan : Plan) (changed : List Standing) : Type 0 where
  pub all : IsPermutation (changes d.airport.day (standings_of d plan) (standings_of next next_plan)) changed
  pub by_name : IsSortedByKey flight_name name_cmp changed

-- these are the changes from a day to another, by their plans
pub record IsChangedTo (d next : DayRecord) (changed : List Standing) : Type 0 where
  pub plan : Plan
  pub next_plan : Plan
  pub of_day : IsDayPlan d plan
  pub of_next : IsDayPlan next next_plan
  pub changes : AreChanges d plan next next_plan changed
