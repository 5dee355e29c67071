-- The plan of a day is first in order, and no other placing is.
use Rattle.std.proofs.{lemmas.Grind.common_steps, Common.{◌≡◌, ℕ, true, List, Some, sym, ◌∙◌, ap, subst, inl, inr, map, arith, rules}}
use Rattle.cdm_plan.proofs.ListWords.{Contains, IsDistinct, list_any, contains_all, distinct_right, list_any-find, list_any-map}
use Rattle.cdm_plan.proofs.PlanWords.{DayValues, same_name, Flight, TaxiTimes, Slot, Plan, Target, AimResult, Placing, IsEarlier}
use Rattle.cdm_plan.proofs.PlanWords.{runway_names, DayRecord, flights_in, IsDayAllowed, IsDayFirst, IsDayPlanBy, IsSound, day_rules}
use Rattle.cdm_plan.proofs.PlanWords.{records_in, has_runway, flight_of, status_of-record, values_of, taxi_of, RunwayRow, IsAim, AreAims}
use Rattle.cdm_plan.proofs.PlanWords.{fixed_on, planned_of, is_planned, target_in, targets_in, targets_on}
use Rattle.cdm_plan.proofs.{DayPlanLemmas.record_names_differ, NameLemmas.runway-names, OnePlanLemmas.partner}
use Rattle.cdm_plan.proofs.{PlacingLemmas.{allowed_on, none_earlier_on}, PlanningLemmas.{aims_are, names_on, targets-aims, targets_of}}
use Rattle.cdm_flight.proofs.Lists.{contains_from_given}
use Rattle.cdm_sequence.proofs.DifferenceLemmas.{compared}

-- a flight of a sound day has a runway of the airport
known_runway : (d : DayRecord) → IsSound d → (f : Flight) (r : List ℕ) → Contains (records_in d.airport d.journal) f → f.runway ≡ Some r
    → has_runway d.airport r ≡ true
known_runway d sound f r i e =
    let from = contains_from_given (flight_of d.airport d.journal) (flights_in d.journal) f i in
    let told = status_of-record from.0 d.airport d.journal f from.2 in
    sound.runways from.0 r (ap (λ (x : Flight). x.runway) told.1 ∙ e)

-- a target has its flight's runway
own_runway : (f : Flight) (times : TaxiTimes) (values : DayValues) (a : AimResult) (t : Target) → IsAim f times values a → target_in a ≡ Some t
    → f.runway ≡ Some t.runway
own_runway f times values a t is e = grind (arith, common_steps)

-- so each target has one
targets_known : (d : DayRecord) (aims : List AimResult) → IsSound d
    → AreAims (records_in d.airport d.journal) (taxi_of d.airport d.journal) (values_of d.journal) aims
    → (t : Target) → Contains (targets_in aims) t → has_runway d.airport t.runway ≡ true
targets_known d aims sound are t i =
    let fs = records_in d.airport d.journal in
    let times = taxi_of d.airport d.journal in
    let from = contains_from_given target_in aims t i in
    let of = partner (λ f a. IsAim f times (values_of d.journal) a) (planned_of fs) aims from.0 are from.1 in
    known_runway d sound of.0 t.runway (contains_all (λ f. is_planned f.status) fs of.0 of.2)
    (own_runway of.0 times (values_of d.journal) from.0 t of.1 from.2)

-- the plan's placing is allowed
day_allowed : (d : DayRecord) (aims : List AimResult) (placing : Placing) (plan : Plan) → IsDistinct same_name (flights_in d.journal)
    → IsDayPlanBy placing aims d plan → IsDayAllowed aims d placing
unfolding IsDayPlanBy
day_allowed d aims placing plan own e =
    let fs = records_in d.airport d.journal in
    let times = taxi_of d.airport d.journal in
    let values = values_of d.journal in
    let targets = sym (targets-aims times values fs) ∙ ap targets_in (aims_are times values (planned_of fs) aims e.aimed) in
    allowed_on (λ r. fixed_on r fs) (targets_in aims) placing (day_rules d) e.made
    (λ r.
    subst (λ (ts : List Target). IsDistinct same_name (map (λ f. f.key.name) (targets_on r ts))) targets
    (distinct_right same_name (map (λ (x : Slot). x.name) (fixed_on r fs))
    (map (λ (t : Target). t.key.name) (targets_on r (targets_of fs times values)))
    (names_on r times values fs (record_names_differ d own))))
    e.sequences

-- and none that is allowed is earlier
day_none_earlier : (d : DayRecord) (aims : List AimResult) (placing other : Placing) (plan : Plan) → IsSound d
    → IsDayPlanBy placing aims d plan → IsDayAllowed aims d other → IsEarlier (targets_in aims) other placing → ⊥
unfolding IsDayPlanBy
day_none_earlier d aims placing other plan sound e allowed sooner =
    let g = d.airport in
    let runway = sooner.first.runway in
    let there = targets_known d aims sound e.aimed sooner.first sooner.among in
    let named : list_any (λ n. same_name n runway) (runway_names g) ≡ true = list_any-map (λ n. same_name n runway) (λ (row : RunwayRow). row.name) g.runways
    ∙ list_any-find (λ (row : RunwayRow). same_name row.name runway) g.runways ∙ there in
    none_earlier_on (λ r. fixed_on r (records_in g d.journal)) (targets_in aims) placing other (day_rules d) e.made e.sequences allowed sooner
    (ap (list_any (λ n. same_name n runway)) (runway-names g d.journal g.runways) ∙ named)

-- so it is first
pub day_first : (d : DayRecord) (aims : List AimResult) (placing : Placing) (plan : Plan) → IsSound d → IsDayPlanBy placing aims d plan
    → IsDayFirst aims d placing
day_first d aims placing plan sound e = search (rules, day_allowed, day_none_earlier)

-- and no other is
pub day_first_one : (d : DayRecord) (aims : List AimResult) (p q : Placing) → IsDayFirst aims d p → IsDayFirst aims d q
    → (f : Target) → Contains (targets_in aims) f → p f ≡ q f
day_first_one d aims p q a b = elim (compared (targets_in aims) p q) [
  | inl same ↦ same
  | inr (inl e) ↦ absurd (b.none_earlier p a.allowed e)
  | inr (inr e) ↦ absurd (a.none_earlier q b.allowed e)
]
