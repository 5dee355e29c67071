-- The plan of what records tell is that of their day.
use Rattle.std.proofs.Common.{[], rules, ◌≡◌, ℕ, ◌+◌, ◌≤◌, ◌++◌, take, List, length, IfSome, Option, None, Some, refl, sym, ap, subst, map}
use Rattle.std.proofs.Common.{filter, arith}
use Rattle.cdm_plan.proofs.ListWords.{is_some, slice_get, option_and_then, AllZip, filter_map, cons_option, IsDistinct, IsPermutation}
use Rattle.cdm_plan.proofs.ListWords.{filter_map-append, IsPermutation-refl, IsPermutation-sym, IsPermutation-trans, map_fixed}
use Rattle.cdm_plan.proofs.ListWords.{distinct_filter, length-map}
use Rattle.cdm_plan.proofs.PlanWords.{same_name, Flight, Update, AirportRows, flight_of, values_of, taxi_of, status_of-record, RunwayRules}
use Rattle.cdm_plan.proofs.PlanWords.{IsSequence, Plan, RunwayPlan, Target, IsAirport, DayRecord, flights_in, IsDayPlan, day_rules}
use Rattle.cdm_plan.proofs.PlanWords.{records_in, HasParts, planned_of, targets_on, IsPlanOn, fixed_in, IsSound}
use Rattle.cdm_plan.proofs.PlanningLemmas.{aim_list, aims_are, aims_mean, blocked_early, early-aims, few_names, targets-aims, targets_of}
use Rattle.cdm_plan.proofs.{NameLemmas.{day_rules_differ, take-next}, PartLemmas.{AllZip-reordered, runways_make}}
use Rattle.cdm_sequence.proofs.NameLemmas.{names_given}

-- the record that the journal says of a flight has its name
pub record_name : (g : AirportRows) (a : List Update) (f : List ℕ) (r : Flight) → flight_of g a f ≡ Some r → r.name ≡ f
record_name g a f r e = sym (ap (λ (x : Flight). x.name) (status_of-record f g a r e).1)

-- The day's flights.

-- they are those that the journal says something of
record_names : (d : DayRecord) → map (λ (r : Flight). r.name) (records_in d.airport d.journal)
    ≡ map (λ f. f) (filter (λ f. is_some (flight_of d.airport d.journal f)) (flights_in d.journal))
record_names d =
    names_given (λ (r : Flight). r.name) (λ f. f) (flight_of d.airport d.journal) (λ f. named f (flight_of d.airport d.journal f) refl) (flights_in d.journal)
  where
    named : (f : List ℕ) (o : Option Flight) → flight_of d.airport d.journal f ≡ o → IfSome o (λ r. r.name ≡ f)
    named f None e = tt
    named f (Some r) e = record_name d.airport d.journal f r e

pub record_names_differ : (d : DayRecord) → IsDistinct same_name (flights_in d.journal)
    → IsDistinct same_name (map (λ (r : Flight). r.name) (records_in d.airport d.journal))
record_names_differ d own =
    let itself : map (λ (f : List ℕ). f) (flights_in d.journal) ≡ flights_in d.journal = map_fixed (λ (f : List ℕ). f) (flights_in d.journal) (λ k f l. refl) in
    subst (λ (ns : List (List ℕ)). IsDistinct same_name ns) (sym (record_names d))
    (distinct_filter same_name (λ (f : List ℕ). f) (λ f. is_some (flight_of d.airport d.journal f)) (flights_in d.journal) (rw itself own))

pub few_records : (d : DayRecord) → IsSound d → length (records_in d.airport d.journal) ≤ 2000
few_records d sound =
    let few = few_names (λ f. f) (flights_in d.journal) (λ f. is_some (flight_of d.airport d.journal f)) _
    (subst (IsPermutation _) (sym (record_names d)) (IsPermutation-refl _)) in
    let long = length-map (records_in d.airport d.journal) (λ (r : Flight). r.name) in
    omega (arith, few, long, sound.few)

-- one more of them
pub records-next : (h : List ℕ → Option Flight) (ks : List (List ℕ)) (i : ℕ)
    → filter_map h (take (i + 1) ks) ≡ filter_map h (take i ks) ++ cons_option (option_and_then h (slice_get ks i)) []
records-next h ks i = search (rules, take-next, filter_map-append)

-- Runway by runway.

abbrev pub targets_at : DayRecord → List ℕ → List Target
targets_at d r = targets_on r (targets_of (records_in d.airport d.journal) (taxi_of d.airport d.journal) (values_of d.journal))

-- a sequence of the runway's flights on a day
abbrev pub HasSequence : DayRecord → RunwayRules → RunwayPlan → Type 0
HasSequence d r p = IsSequence r (fixed_in d r.name) (targets_at d r.name) p

pub is_plan_on : (d : DayRecord) (r : RunwayRules) (p : RunwayPlan) → HasSequence d r p → IsPlanOn d r p
is_plan_on d r p e =
    let fs = records_in d.airport d.journal in
    let times = taxi_of d.airport d.journal in
    let values = values_of d.journal in
    record {
      aims = aim_list fs times values;
      aimed = aims_mean times values (planned_of fs);
      sequence = rw (targets-aims times values fs) e;
    }

pub has_sequence : (d : DayRecord) (r : RunwayRules) (p : RunwayPlan) → IsPlanOn d r p → HasSequence d r p
has_sequence d r p e = search (rules, targets-aims, aims_are)

-- a plan made from the plans of all runways is the day's
pub day_plan : (d : DayRecord) (rules : List RunwayRules) (made plans : List RunwayPlan) (plan : Plan) → IsAirport d.airport
    → IsPermutation (day_rules d) rules → AllZip (HasSequence d) rules made → IsPermutation made plans → plan.clock ≡ (values_of d.journal).clock
    → HasParts (blocked_early (records_in d.airport d.journal) (taxi_of d.airport d.journal) (values_of d.journal)) plans plan → IsDayPlan d plan
unfolding IsDayPlan
day_plan d rules made plans plan airport all each same clock parts =
    let g = d.airport in
    let a = d.journal in
    let fs = records_in g a in
    let times = taxi_of g a in
    let values = values_of a in
    let found = AllZip-reordered (HasSequence d) rules (day_rules d) made (IsPermutation-sym (day_rules d) rules all) each in
    runways_make times values fs (day_rules d) (aim_list fs times values) found.0 plan (aims_mean times values (planned_of fs))
    (day_rules_differ d airport.names)
    (rw (targets-aims times values fs) found.1) clock
    record {
      runways = IsPermutation-trans found.0 made plan.runways found.2 (IsPermutation-trans made plans plan.runways same parts.runways);
      runway_order = parts.runway_order;
      blocked = rw (early-aims times values fs) parts.blocked;
      blocked_order = parts.blocked_order;
    }
