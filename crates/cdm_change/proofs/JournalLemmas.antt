-- How the flights of a day stand when it may change.
use Rattle.std.proofs.Common.{◌≡◌, ℕ, ◌≤◌, ◌++◌, inl, inr, Bool, true, false, not, ◌&&◌, ◌||◌, List, [], ◌∷◌, Option, None, Some, IfSome, Contains, refl, sym, ap, ◌∙◌, subst, arith, ltb-false}
use Rattle.std.proofs.lemmas.List.Elements.{All-contains, Contains-push_cases}
use Rattle.cdm_flight.proofs.JournalLemmas.{values_of-clock, values_of-tolerance, values_of-untouched}
use Rattle.cdm_flight.specs.declared.values.DayValues.{DayValues}
use Rattle.cdm_change.proofs.DayLemmas.{ClockRises}
use Rattle.std.specs.Prelude.{nat_lt, if◌then◌else◌}
use Rattle.cdm_flight.specs.declared.word.RefusalWord.TheVariants.{Order}
use Rattle.std.specs.Option.{option_and_then, option_map, option_map_or, option_or}
use Rattle.std.specs.List.{IsDistinct}
use Rattle.cdm_flight.proofs.JournalLemmas.{aobt_of, atot_of, is_cancelled, last_value-push, status_of-record, touching-push, untouched}
use Rattle.cdm_flight.proofs.Lists.{contains_from_given}
use Rattle.cdm_flight.specs.declared.flight.Flight.{Flight}
use Rattle.cdm_flight.specs.declared.flight.Status.{Status}
use Rattle.cdm_flight.specs.declared.flight.Status.TheVariants as status
use Rattle.cdm_flight.specs.declared.reach.Reach.TheVariants as reach
use Rattle.cdm_flight.specs.declared.role.Role.{Role}
use Rattle.cdm_flight.specs.declared.update.Update.{Update}
use Rattle.cdm_flight.specs.declared.update.Update.TheVariants.{Off, Air, Clock, Tol}
use Rattle.cdm_flight.specs.Accepted.{accepted, has_runway, refusal_of}
use Rattle.cdm_flight.specs.Journal.{AirportRows, aobt_given, atot_given, exot_of, flight_of, is_known, last_value, of_flight, record_with, status_from, status_of, values_of}
use Rattle.cdm_flight.specs.Reach.{reach_of, same_reach}
use Rattle.cdm_flight.specs.Record.{is_planned}
use Rattle.cdm_flight.specs.Step.{step_refusal}
use Rattle.cdm_plan.specs.Airport.{IsAirport}
use Rattle.cdm_plan.specs.Day.{DayRecord, flights_in}
use Rattle.cdm_plan.specs.DayPlan.{records_in}
use Rattle.cdm_plan.specs.Sound.{IsSound}
use Rattle.cdm_plan.proofs.DayPlanLemmas.{record_name}
use Rattle.cdm_plan.proofs.JournalFacts.{accepted_is, flight_named}
use Rattle.cdm_day.proofs.BatchLemmas.{accepted-keeps}
use Rattle.cdm_day.proofs.SoundLemmas.{sound_after}
use Rattle.cdm_carry.specs.Carry.{stays}
use Rattle.cdm_carry.specs.inner.Leaving.{LeaveOnce}
use Rattle.cdm_carry.specs.Notices.{stays_by}
use Rattle.cdm_carry.proofs.StayLemmas.{leave_once, off_first, one_more, state_allows, stays_is}
use Rattle.cdm_change.specs.Unnoticed.{IsLongGone, MayChange, day_after, is_earlier, is_left}
use Rattle.cdm_change.proofs.FixedLemmas.{StandsBy}

-- A day of accepted records is sound.

first_sound : (g : AirportRows) → IsAirport g → IsSound (record { airport = g; journal = [] })
unfolding IsDistinct
first_sound g airport = record {
  airport = airport;
  silent = λ f h. refl;
  short = omega arith;
  names = tt;
  few = omega arith;
  runways = λ f r h. cc h;
}

pub sound_day : (g : AirportRows) (records : List (Role × Update)) → IsAirport g → IsSound (day_after g records)
sound_day g records airport =
    accepted-keeps (λ a. IsSound (record { airport = g; journal = a })) g
    (λ a u good sound. sound_after (record { airport = g; journal = a }) u sound good) [] records (first_sound g airport)

-- The clock of accepted records rises.

not_back : (b : Bool) (m c : ℕ) → nat_lt m c ≡ b → b ≡ false → c ≤ m
not_back b m c e h = ltb-false m c (e ∙ h)

clock_allows : (g : AirportRows) (a : List Update) (m : ℕ) → refusal_of g a (Clock m) ≡ None → (values_of a).clock ≤ m
clock_allows g a m good = not_back (nat_lt m (values_of a).clock) m (values_of a).clock refl (accepted_is g a (Clock m) good).ordered

-- one update leaves the clock as it was, or sets it
clock_after : (g : AirportRows) (a : List Update) (u : Update) → refusal_of g a u ≡ None
    → ((values_of a).clock ≤ (values_of (a ++ u ∷ [])).clock) × ((m : ℕ) → u ≡ Clock m → m ≤ (values_of (a ++ u ∷ [])).clock)
clock_after g a (Clock m) good =
    let set : (values_of (a ++ Clock m ∷ [])).clock ≡ m = ap (λ (v : DayValues). v.clock) (values_of-clock a m) in
    let before = clock_allows g a m good in
    (omega (arith, set, before), λ k e. let same : m ≡ k = cc e in omega (arith, set, same))
clock_after g a (Tol t) good =
    let same : (values_of (a ++ Tol t ∷ [])).clock ≡ (values_of a).clock = ap (λ (v : DayValues). v.clock) (values_of-tolerance a t) in
    (omega (arith, same), λ k e. cc e)
clock_after g a u good =
    let same : (values_of (a ++ u ∷ [])).clock ≡ (values_of a).clock = ap (λ (v : DayValues). v.clock) (values_of-untouched a u refl) in
    (omega (arith, same), λ k e. cc e)

pub one_clock : (g : AirportRows) (a : List Update) (u : Update) → refusal_of g a u ≡ None → ClockRises a → ClockRises (a ++ u ∷ [])
one_clock g a u good rises = λ m i.
    let after = clock_after g a u good in
    elim (Contains-push_cases a u (Clock m) i) [
      | inl j ↦ let before = rises m j in omega (arith, before, after.0)
      | inr same ↦ after.1 m same
    ]

pub clock_rises : (g : AirportRows) (records : List (Role × Update)) → ClockRises (accepted g [] records)
clock_rises g records = accepted-keeps ClockRises g (one_clock g) [] records (λ m i. absurd (omega (arith, i.1)))

-- A flight takes off after it left its stand.

record FliesAfter (a : List Update) : Type 0 where
  once : LeaveOnce a
  flies : (f : List ℕ) (m t : ℕ) → aobt_of a f ≡ Some m → atot_of a f ≡ Some t → m ≤ t

-- an AIR that no word refuses
air_by : (f : List ℕ) (t m : ℕ) (own : List Update) (c : Bool) (x b e : Option ℕ) (k : Bool) → b ≡ Some m
    → option_and_then (λ r. step_refusal r.status r.runway (Air f t) e) (option_map (record_with f own) (status_from c x b e k)) ≡ None → m ≤ t
air_by f t m own true x b e k is h = cc h
air_by f t m own false (Some x) b e k is h = cc h
air_by f t m own false None None e k is h = cc is
air_by f t m own false None (Some n) e k is h = by (nat_lt t n) refl h
  where
    same : n ≡ m
    same = cc is

    by : (c : Bool) → nat_lt t n ≡ c → (if c then Some Order else None) ≡ None → m ≤ t
    by true e h = cc h
    by false e h = omega (arith, ltb-false t n e, same)

air_later : (g : AirportRows) (a : List Update) (f : List ℕ) (t m : ℕ) → refusal_of g a (Air f t) ≡ None → aobt_of a f ≡ Some m → m ≤ t
unfolding flight_of
air_later g a f t m good is =
    air_by f t m (of_flight f a) (is_cancelled a f) (atot_of a f) (aobt_of a f) (exot_of g a f) (is_known a f) is (state_allows g a (Air f t) good).1

module _ (g : AirportRows) (a : List Update) (u : Update) (good : refusal_of g a u ≡ None) (so_far : FliesAfter a) where
  flies_by : (f : List ℕ) (m t : ℕ) (v : Update) → reach_of v ≡ reach.Flight f → refusal_of g a v ≡ None → option_or (aobt_given v) (aobt_of a f) ≡ Some m
      → option_or (atot_given v) (atot_of a f) ≡ Some t → m ≤ t
  flies_by f m t (Off q x) e ok left flown =
      let same : q ≡ f = cc e in
      let none : aobt_of a f ≡ None = subst (λ (k : List ℕ). aobt_of a k ≡ None) same (off_first g a q x ok) in
      let no : None ≡ Some t = sym (so_far.once.flown f none) ∙ flown in
      cc no
  flies_by f m t (Air q x) e ok left flown =
      let same : q ≡ f = cc e in
      let at : x ≡ t = cc flown in
      let own : aobt_of a q ≡ Some m = ap (aobt_of a) same ∙ left in
      let later = air_later g a q x m ok own in
      omega (arith, later, at)
  flies_by f m t v e ok left flown = so_far.flies f m t left flown

  flies_next : (f : List ℕ) (m t : ℕ) (b : Bool) → same_reach (reach_of u) (reach.Flight f) ≡ b → aobt_of (a ++ u ∷ []) f ≡ Some m → atot_of (a ++ u ∷ []) f ≡ Some t
      → m ≤ t
  flies_next f m t false e left flown =
      let same = untouched (reach.Flight f) a u e in
      so_far.flies f m t (sym (ap (last_value aobt_given) same) ∙ left) (sym (ap (last_value atot_given) same) ∙ flown)
  flies_next f m t true e left flown =
      let more = touching-push (reach.Flight f) a u e in
      flies_by f m t u (flight_named (reach_of u) f e) good
      (sym (ap (last_value aobt_given) more ∙ last_value-push aobt_given (of_flight f a) u) ∙ left)
      (sym (ap (last_value atot_given) more ∙ last_value-push atot_given (of_flight f a) u) ∙ flown)

  one_later : FliesAfter (a ++ u ∷ [])
  one_later = record {
    once = one_more g a u good so_far.once;
    flies = λ f m t left flown. flies_next f m t (same_reach (reach_of u) (reach.Flight f)) refl left flown;
  }

flies_after : (g : AirportRows) (records : List (Role × Update)) → FliesAfter (accepted g [] records)
flies_after g records =
    accepted-keeps FliesAfter g (λ a u good so_far. one_later g a u good so_far) [] records
    (record { once = record { left = λ f. refl; flown = λ f h. refl }; flies = λ f m t left flown. cc left })

-- Flights.

airborne_says : (c : Bool) (t b e : Option ℕ) (k : Bool) (m x : ℕ) → (b ≡ None → t ≡ None) → status_from c t b e k ≡ Some (status.Airborne m x)
    → (b ≡ Some m) × (t ≡ Some x)
airborne_says true t b e k m x after h = cc h
airborne_says false (Some y) (Some n) e k m x after h =
    let left : n ≡ m = cc h in
    let flown : y ≡ x = cc h in
    (ap (λ (i : ℕ). Some i) left, ap (λ (i : ℕ). Some i) flown)
airborne_says false (Some y) None e k m x after h = cc (after refl)
airborne_says false None (Some n) e k m x after h = cc h
airborne_says false None None e true m x after h = cc h
airborne_says false None None e false m x after h = cc h

not_early : (o : Option ℕ) → option_map_or (λ m. nat_lt m 1440) o false ≡ false → IfSome o (λ m. 1440 ≤ m)
not_early None h = tt
not_early (Some m) h = ltb-false m 1440 h

neither : (x y : Bool) → (x || y) ≡ false → (x ≡ false) × (y ≡ false)
neither true y h = cc h
neither false y h = (refl, h)

module _ (g : AirportRows) (records : List (Role × Update)) (airport : IsAirport g) (may : MayChange (day_after g records)) where
  abbrev day : DayRecord
  day = day_after g records

  abbrev now : ℕ
  now = (values_of day.journal).clock

  module _ (f : Flight) (i : Contains (records_in g day.journal) f) where
    known : (k : List ℕ) × Contains (flights_in day.journal) k × (flight_of g day.journal k ≡ Some f)
    known = contains_from_given (flight_of g day.journal) (flights_in day.journal) f i

    stays_by_status : stays day.journal f.name ≡ stays_by f.status
    stays_by_status =
        ap (stays day.journal) (record_name g day.journal known.0 f known.2)
        ∙ stays_is day known.0 (sound_day g records airport) (leave_once g records)
        ∙ ap (λ (o : Option Flight). option_map_or (λ r. stays_by r.status) o false) known.2

    told : status_of g day.journal known.0 ≡ Some f.status
    told = (status_of-record known.0 g day.journal f known.2).0

    by_status : (x : Status) → f.status ≡ x → stays day.journal f.name ≡ stays_by x → StandsBy now (stays day.journal f.name) f x
    by_status status.Planned e stays_so =
        let calm : is_earlier f ≡ false = All-contains (λ (f : Flight). is_earlier f ≡ false) (records_in g day.journal) f may.none_earlier i in
        let early = option_map_or (λ (m : ℕ). nat_lt m 1440) f.tobt false in
        let early_ctot = option_map_or (λ (m : ℕ). nat_lt m 1440) f.ctot false in
        let both = neither early early_ctot (ap (λ (x : Status). is_planned x && (early || early_ctot)) (sym e) ∙ calm) in
        (stays_so, not_early f.tobt both.0, not_early f.ctot both.1)
    by_status (status.OffBlock aobt exot) e stays_so =
        let here : nat_lt aobt 1440 ≡ false =
        ap is_left (sym e) ∙ All-contains (λ (f : Flight). is_left f.status ≡ false) (records_in g day.journal) f may.none_left i in
        (stays_so ∙ ap not here, ltb-false aobt 1440 here)
    by_status (status.Airborne aobt atot) e stays_so = by (nat_lt aobt 1440) refl
      where
        by : (b : Bool) → nat_lt aobt 1440 ≡ b → StandsBy now (stays day.journal f.name) f (status.Airborne aobt atot)
        by true early =
            let gone : stays day.journal f.name ≡ false = stays_so ∙ ap not early in
            let long : IsLongGone now f.status =
            All-contains (λ (f : Flight). stays day.journal f.name ≡ false → IsLongGone now f.status) (records_in g day.journal) f may.long_gone i gone in
            inr (gone, subst (IsLongGone now) e long)
        by false late =
            let so_far = flies_after g records in
            let says = airborne_says (is_cancelled day.journal known.0) (atot_of day.journal known.0) (aobt_of day.journal known.0) (exot_of g day.journal known.0)
            (is_known day.journal known.0) aobt atot (so_far.once.flown known.0) (told ∙ ap (λ (x : Status). Some x) e) in
            inl (stays_so ∙ ap not late, ltb-false aobt 1440 late, so_far.flies known.0 aobt atot says.0 says.1)
    by_status status.Cancelled e stays_so = stays_so

    -- A flight of a day that may change stands as it must.
    pub stands : StandsBy now (stays day.journal f.name) f f.status
    stands = by_status f.status refl stays_by_status

    -- Its runway is one of the airport's.
    pub has_its_runway : (r : List ℕ) → f.runway ≡ Some r → has_runway g r ≡ true
    has_its_runway r e =
        (sound_day g records airport).runways known.0 r (ap (λ (x : Flight). x.runway) ((status_of-record known.0 g day.journal f known.2).1) ∙ e)
