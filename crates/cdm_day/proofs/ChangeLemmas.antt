-- What the longer journal says is what the day says with the change.
use Rattle.cdm_day.proofs.Words.{rules, ◌≡◌, ℕ, ◌≤◌, Bool, true, false, List, [], ◌∷◌, ◌++◌, Option, None, Some, refl, sym, ap, ◌∙◌, subst}
use Rattle.cdm_day.proofs.Words.{true≢false, arith, if◌then◌else◌, nat_lt, Contains, cons_option, nat_list_eq_equiv, option_map, nat_tests}
use Rattle.cdm_day.proofs.Words.{record_name, flights_in-push, new_flight-old, find_some, one_row}
use Rattle.cdm_day.proofs.DayWords.{RunwayRow, Update, flight_in, reach_of, same_name, same_name-refl, same_reach, Flight, is_fresh}
use Rattle.cdm_day.proofs.DayWords.{TaxiRows, AirportRows, runway_row, flight_of, values_of, flight_of-untouched, values_of-untouched}
use Rattle.cdm_day.proofs.DayWords.{refusal_of, RunwayRules, is_rate_window, IsAirport, DayRecord, flights_in, rules_of, with_update}
use Rattle.cdm_day.proofs.DayWords.{IsSound, TellTaxi, ChangesRunway, IsChange, has_window, with_change, Flt, Rate, Close, Reopen}
use Rattle.cdm_day.proofs.{RunwayLemmas.{rules-closed, rules-rate}, SoundLemmas.sound_after, TaxiLemmas.{taxi_after_other, taxi_after_taxi}}
use Rattle.cdm_day.specs.{inner.Put.{flight_with, if_named, made_known, rows_with, rules_with, values_with}, declared.change.Change.Change}
use Rattle.cdm_day.specs.declared.change.{Change.TheVariants.{NewFlight, NextRecord, Runway, TaxiRow, Values}, RunwayChange.RunwayChange}
use Rattle.cdm_flight.specs.declared.reach.Reach.{Reach}
use Rattle.cdm_plan.proofs.{RunwayLemmas.rules-same, PlanWords.new_flight}
use Rattle.cdm_flight.specs.declared.reach.Reach.TheVariants as reach
use Rattle.cdm_day.specs.declared.change.RunwayChange.TheVariants as change

pub record SaysWith (d : DayRecord) (u : Update) (change : Change) : Type 0 where
  pub sound : IsSound (with_update d u)
  pub flights : (f : List ℕ) → flight_of d.airport (d.journal ++ u ∷ []) f ≡ flight_with change f (flight_of d.airport d.journal f)
  pub order : flights_in (d.journal ++ u ∷ []) ≡ flights_in d.journal ++ made_known change
  pub runways : (row : RunwayRow) → Contains d.airport.runways row → rules_of d.airport (d.journal ++ u ∷ []) row ≡ rules_with change (rules_of d.airport d.journal row)
  pub taxi : (rows : TaxiRows) → TellTaxi d.airport d.journal rows → TellTaxi d.airport (d.journal ++ u ∷ []) (rows_with change rows)
  pub day : values_of (d.journal ++ u ∷ []) ≡ values_with change (values_of d.journal)

-- only an update of a flight makes one known
fresh-none : (u : Update) → ((f : List ℕ) → same_reach (reach_of u) (reach.Flight f) ≡ false) → is_fresh u ≡ false
fresh-none (Flt f p) h = absurd (true≢false (sym (same_name-refl f) ∙ h f))
fresh-none _ h = refl

-- What an update leaves that touches something else.

module _ (d : DayRecord) (u : Update) {what : Reach} (e : reach_of u ≡ what) where
  apart : (other : Reach) → same_reach what other ≡ false → same_reach (reach_of u) other ≡ false
  apart other h = ap (λ w. same_reach w other) e ∙ h

  flights_left : ((f : List ℕ) → same_reach what (reach.Flight f) ≡ false) → (f : List ℕ) → flight_of d.airport (d.journal ++ u ∷ []) f ≡ flight_of d.airport d.journal f
  flights_left none f = flight_of-untouched f d.airport d.journal u (apart (reach.Flight f) (none f))

  order-old : is_fresh u ≡ false → flights_in (d.journal ++ u ∷ []) ≡ flights_in d.journal ++ []
  order-old old = flights_in-push d.journal u ∙ ap (λ o. flights_in d.journal ++ cons_option o []) (new_flight-old u old)

  order_left : ((f : List ℕ) → same_reach what (reach.Flight f) ≡ false) → flights_in (d.journal ++ u ∷ []) ≡ flights_in d.journal ++ []
  order_left none = order-old (fresh-none u (λ f. apart (reach.Flight f) (none f)))

  runways_left : ((r : List ℕ) → same_reach what (reach.Runway r) ≡ false) → (row : RunwayRow) → rules_of d.airport (d.journal ++ u ∷ []) row ≡ rules_of d.airport d.journal row
  runways_left none row = sym (rules-same d.airport d.journal row u (apart (reach.Runway row.name) (none row.name)))

  taxi_left : ((r : List ℕ) → same_reach what (reach.Taxi r) ≡ false) → (rows : TaxiRows) → TellTaxi d.airport d.journal rows → TellTaxi d.airport (d.journal ++ u ∷ []) rows
  taxi_left none rows told = taxi_after_other d.airport d.journal u rows (λ r. apart (reach.Taxi r) (none r)) told

  day_left : same_reach what reach.Day ≡ false → values_of (d.journal ++ u ∷ []) ≡ values_of d.journal
  day_left none = values_of-untouched d.journal u (apart reach.Day none)

-- A record of a flight.

flight_put : (d : DayRecord) (u : Update) (r : Flight) → reach_of u ≡ reach.Flight r.name → flight_of d.airport (d.journal ++ u ∷ []) r.name ≡ Some r
    → (f : List ℕ) → flight_of d.airport (d.journal ++ u ∷ []) f ≡ (if same_name r.name f then Some r else flight_of d.airport d.journal f)
flight_put d u r e says f = search (rules, flight_of-untouched)

-- what the longer journal says of the flight is its next record
pub next_record : (d : DayRecord) (u : Update) (f : List ℕ) (r : Flight) → reach_of u ≡ reach.Flight f → is_fresh u ≡ false
    → flight_of d.airport (d.journal ++ u ∷ []) f ≡ Some r → IsChange d u (NextRecord r)
next_record d u f r e old says = search (rules, record_name)

new_is : (u : Update) (f : List ℕ) → is_fresh u ≡ true → reach_of u ≡ reach.Flight f → new_flight u ≡ Some f
new_is u f new e = rw new (ap flight_in e)

-- A change of a runway.

module _ (d : DayRecord) (airport : IsAirport d.airport) (u : Update) (r : List ℕ) (change : RunwayChange) (is : ChangesRunway d u r change) where
  pub the_row : (row : RunwayRow) → Contains d.airport.runways row → same_name row.name r ≡ true → row ≡ is.row
  the_row row i h = search (rules, find_some, one_row)

  pub window_of : (row : RunwayRow) → Contains d.airport.runways row → same_name (rules_of d.airport d.journal row).name r ≡ true → has_window change (rules_of d.airport d.journal row) ≡ true
  unfolding rules_of
  window_of row i h = subst (λ (x : RunwayRow). has_window change (rules_of d.airport d.journal x) ≡ true) (sym (the_row row i h)) is.window

  runway_put : (row : RunwayRow) → Contains d.airport.runways row → rules_of d.airport (d.journal ++ u ∷ []) row ≡ if_named r change (rules_of d.airport d.journal row)
  unfolding rules_of
  runway_put row i = by (same_name row.name r) refl
    where
      by : (b : Bool) → same_name row.name r ≡ b
          → rules_of d.airport (d.journal ++ u ∷ []) row ≡ (if b then with_change change (rules_of d.airport d.journal row) else rules_of d.airport d.journal row)
      by true h = subst (λ (x : RunwayRow). rules_of d.airport (d.journal ++ u ∷ []) x ≡ with_change change (rules_of d.airport d.journal x)) (sym (the_row row i h)) (sym is.allows)
      by false h = sym (rules-same d.airport d.journal row u (ap (λ what. same_reach what (reach.Runway row.name)) is.of_it ∙ (nat_list_eq_equiv.symm r row.name ∙ h)))

-- its name is the row's
own_name : (g : AirportRows) (row : RunwayRow) (r : List ℕ) → runway_row g r ≡ Some row → same_name r row.name ≡ true
own_name g row r known = nat_list_eq_equiv.symm r row.name ∙ (find_some (λ (x : RunwayRow). same_name x.name r) g.runways row known).1

-- a RATE sets a rate
pub rate_changes : (d : DayRecord) (r : List ℕ) (x : RunwayRules) (from to cap : ℕ) → option_map (rules_of d.airport d.journal) (runway_row d.airport r) ≡ Some x
    → is_rate_window x.cell from to ≡ true → to ≤ 2880 → ChangesRunway d (Rate r from to cap) r (change.Rate from to cap)
unfolding rules_of
rate_changes d r x from to cap at h within = by (runway_row d.airport r) refl at
  where
    by : (o : Option RunwayRow) → runway_row d.airport r ≡ o → option_map (rules_of d.airport d.journal) o ≡ Some x → ChangesRunway d (Rate r from to cap) r (change.Rate from to cap)
    by None known k = cc
    by (Some row) known k =
        let same : rules_of d.airport d.journal row ≡ x = cc in
        let window : is_rate_window row.cell from to ≡ true = ap (λ (y : RunwayRules). is_rate_window y.cell from to) same ∙ h in
        record {
          of_it = refl;
          row = row;
          known = known;
          window = window;
          allows = rules-rate d.airport d.journal row (Rate r from to cap) (own_name d.airport row r known) from to cap window within (λ m. refl) (λ m. refl);
        }

in_order : (from to : ℕ) → nat_lt from to ≡ true → from ≤ to
in_order from to h = grind (arith, nat_tests)

-- a CLOSE or OPEN sets a closure
pub closure_changes : (d : DayRecord) (row : RunwayRow) (r : List ℕ) → runway_row d.airport r ≡ Some row → (from to : ℕ) → to ≤ 2880 → (closed : Bool) → nat_lt from to ≡ true
    → ChangesRunway d (if closed then Close r from to else Reopen r from to) r (change.Closure from to closed)
closure_changes d row r known from to within closed h = search (rules, rules-closed, own_name, in_order)

-- All changes.

-- what a change is of
abbrev reach_with : Change → Reach
reach_with (NewFlight r) = reach.Flight r.name
reach_with (NextRecord r) = reach.Flight r.name
reach_with (Runway r change) = reach.Runway r
reach_with (TaxiRow place r minutes) = reach.Taxi r
reach_with (Values values) = reach.Day

module _ (d : DayRecord) (u : Update) (sound : IsSound d) where
  is_of : (change : Change) → IsChange d u change → reach_of u ≡ reach_with change
  is_of change is = search rules

  flights : (change : Change) → IsChange d u change → (f : List ℕ) → flight_of d.airport (d.journal ++ u ∷ []) f ≡ flight_with change f (flight_of d.airport d.journal f)
  flights change is = search (rules, flight_put, flights_left, is_of)

  order : (change : Change) → IsChange d u change → flights_in (d.journal ++ u ∷ []) ≡ flights_in d.journal ++ made_known change
  order change is = search (rules, flights_in-push, new_is, order-old, order_left, is_of)

  runways : (change : Change) → IsChange d u change
      → (row : RunwayRow) → Contains d.airport.runways row → rules_of d.airport (d.journal ++ u ∷ []) row ≡ rules_with change (rules_of d.airport d.journal row)
  runways change is = search (rules, runway_put, runways_left, is_of)

  taxi : (change : Change) → IsChange d u change → (rows : TaxiRows) → TellTaxi d.airport d.journal rows → TellTaxi d.airport (d.journal ++ u ∷ []) (rows_with change rows)
  taxi change is = search (rules, taxi_after_taxi, taxi_left, is_of)

  day : (change : Change) → IsChange d u change → values_of (d.journal ++ u ∷ []) ≡ values_with change (values_of d.journal)
  day change is = search (rules, day_left, is_of)

  pub says_with : refusal_of d.airport d.journal u ≡ None → (change : Change) → IsChange d u change → SaysWith d u change
  says_with good change is = search (rules, sound_after, flights, order, runways, taxi, day)
