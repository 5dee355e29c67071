-- What the next day says of a flight.
use Rattle.std.proofs.Common.{◌≡◌, ℕ, Bool, true, false, not, ◌&&◌, List, Option, None, Some, refl, sym, ap, ◌∙◌, subst}
use Rattle.std.specs.Prelude.{is_some, unwrap_or, take_while}
use Rattle.std.specs.Bool.{then_some}
use Rattle.std.specs.List.{filter_map, list_any}
use Rattle.std.specs.Option.{option_and_then, option_map, IfSome}
use Rattle.cdm_flight.specs.declared.flight.Flight.{Flight}
use Rattle.cdm_flight.specs.declared.flight.Status.{Status}
use Rattle.cdm_flight.specs.declared.group.Group.TheVariants.{Medium}
use Rattle.cdm_flight.specs.declared.ice.Ice.TheVariants.{NoIce}
use Rattle.cdm_flight.specs.declared.reach.Reach.TheVariants as reach
use Rattle.cdm_flight.specs.declared.update.Update.{Update}
use Rattle.cdm_flight.specs.declared.update.Update.TheVariants as update
use Rattle.cdm_flight.specs.Journal.{AirportRows, aobt_given, atot_given, ctot_given, exot_now, exot_of, flight_of, is_cancel, is_known, last_value, of_flight, record_with, status_from, status_of}
use Rattle.cdm_flight.specs.Reach.{reach_of, same_reach}
use Rattle.cdm_flight.specs.Step.{is_fresh}
use Rattle.cdm_flight.specs.Taxi.{taxi_out}
use Rattle.cdm_carry.specs.Carry.{carried, goes_on, moved, stays}
use Rattle.cdm_carry.specs.Laws.{SaysTheSame, next_minute}
use Rattle.cdm_carry.proofs.LawLemmas.{goes_on-flight, reach_of-moved, says_the_same}
use Rattle.cdm_plan.proofs.JournalFacts.{flight_named}
use Rattle.cdm_change.specs.NextDay.{next_flight, next_journal, next_status}
use Rattle.cdm_change.proofs.CarriedLemmas.{of_flight-carried, of_flight-gone}
use Rattle.cdm_change.proofs.DayLemmas.{taxi_of-carried}
use Rattle.cdm_change.proofs.ListLemmas.{list_any-moved, take_while-given}

-- Tests of updates.

pub fresh_moved : (u : Update) → is_fresh (moved u) ≡ is_fresh u
fresh_moved (update.Flt f p) = refl
fresh_moved u = refl

cancel_moved : (u : Update) → is_cancel (moved u) ≡ is_cancel u
cancel_moved (update.Cnl f) = refl
cancel_moved u = refl

off_moved : (u : Update) → is_some (aobt_given (moved u)) ≡ is_some (aobt_given u)
off_moved (update.Off f m) = refl
off_moved u = refl

-- The taxi-out time.

module _ (g h : AirportRows) (taxi : h.taxi ≡ g.taxi) (a : List Update) (f : List ℕ) (stay : stays a f ≡ true) where
  -- what some updates of the day say of the flight, the carried ones of them say
  said : (us : List Update) → SaysTheSame (of_flight f us) (of_flight f (filter_map (carried a) us))
  said us = subst (SaysTheSame (of_flight f us)) (sym (of_flight-carried a f stay us)) (says_the_same (of_flight f us))

  pub exot_now-carried : (us : List Update) → exot_now h (filter_map (carried a) us) f ≡ exot_now g us f
  exot_now-carried us =
      let same = said us in
      λ i. option_and_then (λ r. taxi_out (λ place. taxi_of-carried g h taxi a us place r i) (same.stand i) (unwrap_or (same.ice i) NoIce)) (same.runway i)

  abbrev is_off : Update → Bool
  is_off u = same_reach (reach_of u) (reach.Flight f) && is_some (aobt_given u)

  off-moved : (u : Update) → is_off (moved u) ≡ is_off u
  off-moved u = λ i. same_reach (reach_of-moved u i) (reach.Flight f) && off_moved u i

  -- an update that isn't its OFF isn't when it is carried
  before : (u : Update) → not (is_off u) ≡ true → IfSome (carried a u) (λ v. not (is_off v) ≡ true)
  before u e = by (goes_on a u)
    where
      by : (b : Bool) → IfSome (then_some b (moved u)) (λ v. not (is_off v) ≡ true)
      by true = ap not (off-moved u) ∙ e
      by false = tt

  -- and its OFF is carried
  left : (u : Update) → not (is_off u) ≡ false → carried a u ≡ Some (moved u)
  left u e = ap (λ b. then_some b (moved u)) (goes_on-flight a f u (flight_named (reach_of u) f (of_it (same_reach (reach_of u) (reach.Flight f)) (is_some (aobt_given u)) e)) ∙ stay)
    where
      of_it : (b c : Bool) → not (b && c) ≡ false → b ≡ true
      of_it true c e = refl
      of_it false c e = cc

  pub exot_of-carried : (us : List Update) → exot_of h (filter_map (carried a) us) f ≡ exot_of g us f
  unfolding exot_of
  exot_of-carried us =
      ap (λ (vs : List Update). exot_now h vs f)
      (take_while-given (λ u. not (is_off u)) (λ u. not (is_off u)) (carried a) moved before left (λ u e. ap not (off-moved u) ∙ e) us)
      ∙ exot_now-carried (take_while (λ u. not (is_off u)) us)

  -- The status.

  status_moved : (c k : Bool) (t b e : Option ℕ)
      → status_from c (option_map next_minute t) (option_map next_minute b) e k ≡ option_map next_status (status_from c t b e k)
  status_moved true k t b e = refl
  status_moved false k (Some t) None e = refl
  status_moved false k (Some t) (Some b) e = refl
  status_moved false k None (Some b) e = refl
  status_moved false true None None e = refl
  status_moved false false None None e = refl

  pub status_of-carried : (us : List Update) → status_of h (filter_map (carried a) us) f ≡ option_map next_status (status_of g us f)
  status_of-carried us =
      let own : List Update = of_flight f us in
      let next : List Update = of_flight f (filter_map (carried a) us) in
      let same = said us in
      let all = of_flight-carried a f stay us in
      let cancelled : list_any is_cancel next ≡ list_any is_cancel own = ap (list_any is_cancel) all ∙ list_any-moved is_cancel moved cancel_moved own in
      let known : list_any is_fresh next ≡ list_any is_fresh own = ap (list_any is_fresh) all ∙ list_any-moved is_fresh moved fresh_moved own in
      (λ i. status_from (cancelled i) (same.atot i) (same.aobt i) (exot_of-carried us i) (known i))
      ∙ status_moved (list_any is_cancel own) (is_known us f) (last_value atot_given own) (last_value aobt_given own) (exot_of g us f)

  -- The record.

  record_moved : (us : List Update) (s : Status) → record_with f (of_flight f (filter_map (carried a) us)) (next_status s) ≡ next_flight (record_with f (of_flight f us) s)
  record_moved us s =
      let same = said us in
      λ i. record {
        name = f;
        priority = unwrap_or (same.priority i) 0;
        tobt = same.tobt i;
        stand = same.stand i;
        runway = same.runway i;
        ctot = (ap (λ (o : Option (Option ℕ)). unwrap_or o None) same.ctot ∙ inner (last_value ctot_given (of_flight f us))) i;
        ice = unwrap_or (same.ice i) NoIce;
        group = unwrap_or (same.group i) Medium;
        status = next_status s;
      }
    where
      inner : (o : Option (Option ℕ)) → unwrap_or (option_map (option_map next_minute) o) None ≡ option_map next_minute (unwrap_or o None)
      inner None = refl
      inner (Some c) = refl

  by_status : (us : List Update) (o p : Option Status) → p ≡ option_map next_status o
      → option_map (record_with f (of_flight f (filter_map (carried a) us))) p ≡ option_map next_flight (option_map (record_with f (of_flight f us)) o)
  by_status us None p e = ap (option_map (record_with f (of_flight f (filter_map (carried a) us)))) e
  by_status us (Some s) p e = ap (option_map (record_with f (of_flight f (filter_map (carried a) us)))) e ∙ ap (λ (x : Flight). Some x) (record_moved us s)

  -- Of a flight that stays the carried ones of some updates say what these say, with its minutes.
  pub flight_of-carried : (us : List Update) → flight_of h (filter_map (carried a) us) f ≡ option_map next_flight (flight_of g us f)
  unfolding flight_of
  flight_of-carried us = by_status us (status_of g us f) (status_of h (filter_map (carried a) us) f) (status_of-carried us)

  -- So the next day knows of it what the day knew.
  pub flight_of-next : flight_of h (next_journal a) f ≡ option_map next_flight (flight_of g a f)
  flight_of-next = flight_of-carried a

-- It doesn't know the others.
pub flight_of-gone : (g h : AirportRows) (a : List Update) (f : List ℕ) → stays a f ≡ false → flight_of h (next_journal a) f ≡ None
unfolding flight_of
flight_of-gone g h a f gone =
    let none = of_flight-gone a f gone a in
    λ i. option_map (record_with f (none i)) (status_from (list_any is_cancel (none i)) (last_value atot_given (none i)) (last_value aobt_given (none i)) (exot_of h (next_journal a) f) (list_any is_fresh (none i)))
