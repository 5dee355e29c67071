-- What a flight waits for, and flights with their slots, targets and keys.
use Rattle.std.proofs.Common.{◌≡◌, ℕ, Bool, true, false, List, filter, Option, None, Some, refl, sym, ◌∙◌, ap, arith}
use Rattle.std.{proofs.lemmas.Option.{option_and_then_some, same_Some}, specs.{Prelude.if◌then◌else◌, Option.option_and_then}}
use Rattle.cdm_plan.proofs.{ListWords.Contains, ListWords.contains_all, DayPlanLemmas.record_name, PlanningLemmas.targets_of}
use Rattle.cdm_plan.proofs.PlanWords.{AimResult, DayRecord, DayValues, IsAim, Plan, Flight, RunwayRow, Slot, Target, TaxiTimes, aim_means}
use Rattle.cdm_plan.proofs.PlanWords.{aim_of, fixed_on, fixed_slot, flight_of, flights_in, is_on, is_planned, planned_of, records_in}
use Rattle.cdm_plan.proofs.PlanWords.{rules_of, runway_row, target_in, taxi_of, values_of}
use Rattle.cdm_flight.{proofs.Lists.contains_from_given, specs.Record.key_of, specs.declared.key.Key.Key}
use Rattle.cdm_sequence.specs.{Aims.IsTarget, Aims.exot_to, Slots.is_fixed}
use Rattle.cdm_view.specs.{Reasons.Waiting, Reasons.is_earlier, Reasons.slots_on, Reasons.waiting_of, Why.waits_for}
use Rattle.cdm_view.proofs.ListLemmas.{option_map_some}

-- What a flight waits for.

abbrev waiting_with : DayRecord → Plan → Flight → Key → List ℕ → RunwayRow → ℕ → Waiting
waiting_with d plan f key r row exot = record {
  flight = f;
  tobt = key.tobt;
  exot = exot;
  values = values_of d.journal;
  rules = rules_of d.airport d.journal row;
  earlier = filter (is_earlier d key) (slots_on plan r);
}

-- it is made of the flight's key, its runway with its row, and its taxi-out time
pub record IsMadeOf (d : DayRecord) (plan : Plan) (f : Flight) (w : Waiting) : Type 0 where
  pub key : Key
  pub keyed : key_of f ≡ Some key
  pub runway : List ℕ
  pub on : f.runway ≡ Some runway
  pub row : RunwayRow
  pub found : runway_row d.airport runway ≡ Some row
  pub exot : ℕ
  pub taxi : exot_to (taxi_of d.airport d.journal) f runway ≡ Some exot
  pub same : waiting_with d plan f key runway row exot ≡ w

pub made_of : (d : DayRecord) (plan : Plan) (f : Flight) (w : Waiting) → waiting_of d plan f ≡ Some w
    → IsMadeOf d plan f w
unfolding waiting_of
made_of d plan f w h =
    option_and_then_some _ (key_of f) w h (λ key keyed h.
    option_and_then_some _ f.runway w h (λ runway on h.
    option_and_then_some _ (runway_row d.airport runway) w h (λ row found h.
    let (exot, taxi, same) = option_map_some (waiting_with d plan f key runway row) _ w h in
    record {
      key = key;
      keyed = keyed;
      runway = runway;
      on = on;
      row = row;
      found = found;
      exot = exot;
      taxi = taxi;
      same = same;
    })))

none_for_all : {K X : Type 0} (g : K → Option X) → ((key : K) → g key ≡ None) → (k : Option K) → option_and_then g k ≡ None
none_for_all g none None = refl
none_for_all g none (Some key) = none key

either_none : {X : Type 0} (b : Bool) (x : Option X) → x ≡ None → (if b then x else None) ≡ None
either_none true x none = none
either_none false x none = refl

-- without a runway a flight waits for nothing
pub no_runway : (d : DayRecord) (plan : Plan) (f : Flight) → f.runway ≡ None → waits_for d plan f ≡ None
unfolding waiting_of
no_runway d plan f none = either_none (is_planned f.status) (waiting_of d plan f) (none_for_all _ (λ key. rw none refl) (key_of f))

-- Flights and their slots.

-- the record of a day's flight is the one that the journal says
pub told : (d : DayRecord) (g : Flight) → Contains (records_in d.airport d.journal) g
    → flight_of d.airport d.journal g.name ≡ Some g
told d g i =
    let from = contains_from_given (flight_of d.airport d.journal) (flights_in d.journal) g i in
    ap (flight_of d.airport d.journal) (record_name d.airport d.journal from.0 g from.2) ∙ from.2

-- flights of one name are one
pub same_flight : (d : DayRecord) (f g : Flight) → flight_of d.airport d.journal f.name ≡ Some f → Contains (records_in d.airport d.journal) g → g.name ≡ f.name
    → g ≡ f
same_flight d f g known i named = same_Some g f (sym (told d g i) ∙ (ap (flight_of d.airport d.journal) named ∙ known))

abbrev key_with : Flight → ℕ → Key
key_with g tobt = record { priority = g.priority; tobt = tobt; name = g.name }

-- a key has its flight's name and TOBT
pub key_says : (g : Flight) (k : Key) → key_of g ≡ Some k → (k.name ≡ g.name) × (g.tobt ≡ Some k.tobt)
key_says g k h =
    let (tobt, is, same) = option_map_some (key_with g) g.tobt k h in
    (sym (ap (λ (x : Key). x.name) same), is ∙ ap (λ (x : Key). Some x.tobt) same)

-- the slot of a flight that has left
pub record IsFixedSlot (g : Flight) (s : Slot) : Type 0 where
  pub fixed : is_fixed s.mark ≡ true
  pub named : s.name ≡ g.name
  pub left : is_planned g.status ≡ false

fixed_says : (g : Flight) (s : Slot) → fixed_slot g ≡ Some s → IsFixedSlot g s
unfolding fixed_slot
fixed_says g s e = grind arith

pub fixed_flight : (r : List ℕ) (fs : List Flight) (s : Slot) → Contains (fixed_on r fs) s → (g : Flight) × Contains fs g × IsFixedSlot g s
unfolding fixed_on
fixed_flight r fs s i =
    let (g, j, e) = contains_from_given fixed_slot (filter (is_on r) fs) s i in
    (g, contains_all (is_on r) fs g j, fixed_says g s e)

-- a target is that of a flight
is_target : (f : Flight) (times : TaxiTimes) (values : DayValues) (a : AimResult) (t : Target) → IsAim f times values a → target_in a ≡ Some t
    → IsTarget f times values t
is_target f times values a t is e = grind arith

pub flight_aimed : (times : TaxiTimes) (values : DayValues) (fs : List Flight) (t : Target)
    → Contains (targets_of fs times values) t → (g : Flight) × Contains fs g × IsTarget g times values t
unfolding targets_of
flight_aimed times values fs t i =
    let (g, j, e) = contains_from_given (λ f. target_in (aim_of f times values)) (planned_of fs) t i in
    let target = is_target g times values (aim_of g times values) t (aim_means g times values) e in
    (g, contains_all (λ f. is_planned f.status) fs g j, target)
