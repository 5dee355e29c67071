-- The plan of a day is that of its journal.
use Rattle.std.specs.Prelude.{◌≡◌, ℕ, List, All, IsPermutation, IsSortedByKey, map, Option, slice_get}
use Rattle.std.specs.List.{filter_map}
use Rattle.cdm_flight.specs.declared.update.Update.{Update}
use Rattle.cdm_flight.specs.Names.{name_cmp}
use Rattle.cdm_flight.specs.declared.flight.Flight.{Flight}
use Rattle.cdm_flight.specs.Journal.{AirportRows, flight_of, taxi_of, values_of}
use Rattle.cdm_runway.specs.Rules.{RunwayRules}
use Rattle.cdm_sequence.specs.Fixed.{takeoffs}
use Rattle.cdm_sequence.specs.Plan.{Placing, IsAllowed, IsEarlier}
use Rattle.cdm_sequence.specs.declared.plan.Plan.{Plan}
use Rattle.cdm_sequence.specs.declared.aims.AimResult.{AimResult}
use Rattle.cdm_plan.specs.Day.{DayRecord, flights_in, rules_of}
use Rattle.cdm_plan.specs.Planning.{IsPlanBy, IsPlanOf, fixed_on, targets_in, targets_on}

-- what the journal says of its flights, in the order in which they were made known
abbrev pub records_in : AirportRows → List Update → List Flight
records_in g a = filter_map (flight_of g a) (flights_in a)

-- what the airport and the journal allow on the runways
abbrev pub day_rules : DayRecord → List RunwayRules
day_rules day = map (rules_of day.airport day.journal) day.airport.runways

-- all runways of the day, in rising order of names
pub record AreByName (day : DayRecord) (runways : List RunwayRules) : Type 0 where
  pub all : IsPermutation (day_rules day) runways
  pub by_name : IsSortedByKey (λ r. r.name) name_cmp runways

-- the runway at a place in the order of names
abbrev pub IsRunwayAt : DayRecord → ℕ → Option RunwayRules → Type 0
IsRunwayAt day place found = (runways : List RunwayRules) × AreByName day runways × (found ≡ slice_get runways place)

-- the plan is that of the flights, taxi times, values and runways that the airport and the journal say
unfoldable pub IsDayPlan : DayRecord → Plan → Type 0
IsDayPlan day plan = IsPlanOf (records_in day.airport day.journal) (taxi_of day.airport day.journal) (values_of day.journal) (day_rules day) plan

-- and it is so by this placing and these aims
unfoldable pub IsDayPlanBy : Placing → List AimResult → DayRecord → Plan → Type 0
IsDayPlanBy placing aims day plan =
    IsPlanBy placing aims (records_in day.airport day.journal) (taxi_of day.airport day.journal) (values_of day.journal) (day_rules day) plan

-- the placing is allowed on each runway of the day
abbrev pub IsDayAllowed : List AimResult → DayRecord → Placing → Type 0
IsDayAllowed aims day placing =
    All (λ r. IsAllowed r (takeoffs r (fixed_on r.name (records_in day.airport day.journal))) (targets_on r.name (targets_in aims)) placing) (day_rules day)

-- first in order: it is allowed, and no placing that is allowed on the day is earlier
pub record IsDayFirst (aims : List AimResult) (day : DayRecord) (placing : Placing) : Type 0 where
  pub allowed : IsDayAllowed aims day placing
  pub none_earlier : (other : Placing) → IsDayAllowed aims day other → IsEarlier (targets_in aims) other placing → ⊥
