-- Which runways updates touch, and the plans of the others, which stand.
use Rattle.std.specs.Prelude.{◌≡◌, ℕ, Bool, true, false, ◌&&◌, not, List, Contains, IsPermutation, Option, None, Some, filter, if◌then◌else◌}
use Rattle.std.specs.List.{find, list_any}
use Rattle.std.specs.Option.{option_map_or}
use Rattle.cdm_flight.specs.declared.airport.RunwayRow.{RunwayRow}
use Rattle.cdm_flight.specs.declared.reach.Reach.{Reach}
use Rattle.cdm_flight.specs.declared.reach.Reach.TheVariants as reach
use Rattle.cdm_flight.specs.Names.{same_name}
use Rattle.cdm_flight.specs.Journal.{flight_of, taxi_of, values_of}
use Rattle.cdm_flight.specs.declared.flight.Flight.{Flight}
use Rattle.cdm_flight.specs.declared.place.Place.{Place}
use Rattle.cdm_runway.specs.Rules.{RunwayRules}
use Rattle.cdm_sequence.specs.Sequence.{IsSequence}
use Rattle.cdm_sequence.specs.declared.plan.Plan.{Plan}
use Rattle.cdm_sequence.specs.declared.plan.RunwayPlan.{RunwayPlan}
use Rattle.cdm_sequence.specs.declared.slot.Slot.{Slot}
use Rattle.cdm_sequence.specs.declared.aims.AimResult.{AimResult}
use Rattle.cdm_sequence.specs.declared.rule.Rule.{Rule}
use Rattle.cdm_sequence.specs.declared.rule.Rule.TheVariants.{Closure, Spacing, Rate}
use Rattle.cdm_sequence.specs.declared.slot.BlockedFlight.{BlockedFlight}
use Rattle.cdm_plan.specs.declared.touched.Noting.{Noting}
use Rattle.cdm_plan.specs.declared.touched.Noting.TheVariants.{EachFlight, CountedFlights}
use Rattle.cdm_plan.specs.declared.touched.Touched.{Touched}
use Rattle.cdm_plan.specs.declared.touched.Touched.TheVariants.{All, Named}
use Rattle.cdm_plan.specs.Brief.{counted_on, counts}
use Rattle.cdm_plan.specs.inner.Aimed.{if_passes, is_on}
use Rattle.cdm_plan.specs.Day.{DayRecord, rules_of}
use Rattle.cdm_plan.specs.DayPlan.{IsDayPlan, day_rules, records_in}
use Rattle.cdm_plan.specs.Planning.{AreAims, early_in, fixed_on, targets_in, targets_on}
use Rattle.cdm_plan.specs.Sound.{IsSound}

-- the runway is one of those that were touched
abbrev pub is_touched : Touched → List ℕ → Bool
is_touched All r = true
is_touched (Named names) r = list_any (λ n. same_name n r) names.items

-- the flights whose updates touch their runway: all, or those that count there
abbrev pub is_counted : Noting → Flight → Bool
is_counted EachFlight f = true
is_counted CountedFlights f = counts f

-- what an update touches is of the runway or of all, or is such a flight that has the runway
abbrev pub is_noted : Noting → DayRecord → Reach → List ℕ → Bool
is_noted n d (reach.Flight f) r = option_map_or (λ x. is_counted n x && is_on r x) (flight_of d.airport d.journal f) false
is_noted n d (reach.Runway s) r = same_name s r
is_noted n d (reach.Taxi s) r = same_name s r
is_noted n d reach.Day r = true

-- what is not touched any more was not touched before, and is none of the others
abbrev pub Adds : Touched → (List ℕ → Bool) → Touched → Type 0
Adds before others after = (r : List ℕ) → is_touched after r ≡ false → (is_touched before r ≡ false) × (others r ≡ false)

-- the runway's fixed flights on a day
abbrev pub fixed_in : DayRecord → List ℕ → List Slot
fixed_in d r = fixed_on r (records_in d.airport d.journal)

-- the plan is the runway's sequence on a day
pub record IsPlanOn (d : DayRecord) (r : RunwayRules) (p : RunwayPlan) : Type 0 where
  pub aims : List AimResult
  pub aimed : AreAims (records_in d.airport d.journal) (taxi_of d.airport d.journal) (values_of d.journal) aims
  pub sequence : IsSequence r (fixed_in d r.name) (targets_on r.name (targets_in aims)) p

-- the flight counts on a runway that was not touched, so that it need not be asked anew
abbrev pub is_untouched : Touched → Flight → Bool
is_untouched t f = option_map_or (λ r. not (is_touched t r)) (counted_on f) false

-- what was not touched since the first day is as it was then
pub record IsSince (first : DayRecord) (t : Touched) (d : DayRecord) : Type 0 where
  pub airport : d.airport ≡ first.airport
  -- the flights of such runways, and among them those that pass a test
  pub flight : (test : Flight → Bool) → ((f : Flight) → test f ≡ true → is_untouched t f ≡ true) → (k : List ℕ)
      → if_passes test (flight_of first.airport first.journal k) ≡ if_passes test (flight_of d.airport d.journal k)
  pub flights : (test : Flight → Bool) → ((f : Flight) → test f ≡ true → is_untouched t f ≡ true)
      → filter test (records_in first.airport first.journal) ≡ filter test (records_in d.airport d.journal)
  -- what the runways allow, the taxi times to them, and the values of the day
  pub rules : (row : RunwayRow) → is_touched t row.name ≡ false → rules_of first.airport first.journal row ≡ rules_of d.airport d.journal row
  pub taxi : (r : List ℕ) → is_touched t r ≡ false → (place : Place) → taxi_of first.airport first.journal place r ≡ taxi_of d.airport d.journal place r
  pub values : (r : List ℕ) → is_touched t r ≡ false → values_of first.journal ≡ values_of d.journal

-- the plan that stands on a runway, if one does
abbrev pub kept_plan : Touched → List RunwayPlan → List ℕ → Option RunwayPlan
kept_plan t plans r = if is_touched t r then None else find (λ p. same_name p.runway r) plans

-- the flights that need not be asked anew, and the others
abbrev pub kept_of : Touched → List Flight → List Flight
kept_of t flights = filter (λ f. is_untouched t f) flights

abbrev pub asked_of : Touched → List Flight → List Flight
asked_of t flights = filter (λ f. not (is_untouched t f)) flights

-- a rule that blocks a flight before the traffic of its runway is asked
abbrev pub is_early : Rule → Bool
is_early Closure = false
is_early Spacing = false
is_early Rate = false
is_early rule = true

-- a blocked flight that stands so still
abbrev pub is_kept_blocked : DayRecord → Touched → BlockedFlight → Bool
is_kept_blocked d t b = is_early b.rule && option_map_or (λ f. is_untouched t f) (flight_of d.airport d.journal b.name) false

-- those among blocked flights
abbrev pub kept_blocked : DayRecord → Touched → List BlockedFlight → List BlockedFlight
kept_blocked d t blocked = filter (is_kept_blocked d t) blocked

-- what stands of a plan is right on the day
pub record AreKept (d : DayRecord) (t : Touched) (plans : List RunwayPlan) (blocked : List BlockedFlight) : Type 0 where
  -- each runway that was not touched has its plan
  pub all : (r : RunwayRules) → Contains (day_rules d) r → kept_plan t plans r.name ≡ None → is_touched t r.name ≡ true
  pub right : (r : RunwayRules) (p : RunwayPlan) → Contains (day_rules d) r → kept_plan t plans r.name ≡ Some p → IsPlanOn d r p
  -- and the flights that are not asked anew are blocked early where they were
  pub early : (aims : List AimResult)
      → AreAims (kept_of t (records_in d.airport d.journal)) (taxi_of d.airport d.journal) (values_of d.journal) aims
      → IsPermutation (early_in (kept_of t (records_in d.airport d.journal)) aims) (kept_blocked d t blocked)

-- a runway that was not touched has the same plan in both lists
abbrev pub AreSameElsewhere : Touched → List RunwayPlan → List RunwayPlan → Type 0
AreSameElsewhere t before after = (p q : RunwayPlan) → Contains before p → Contains after q → p.runway ≡ q.runway → is_touched t p.runway ≡ false
    → p ≡ q

-- the day is sound, the plan is its plan, and no other is
pub record IsMade (d : DayRecord) (plan : Plan) : Type 0 where
  pub sound : IsSound d
  pub of_day : IsDayPlan d plan
  pub only : (other : Plan) → IsDayPlan d other → other ≡ plan
