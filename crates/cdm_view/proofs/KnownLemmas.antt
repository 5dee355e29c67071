-- Each known flight has a standing.
use Rattle.std.proofs.Common.{◌≡◌, ℕ, Bool, true, false, ◌||◌, List, [], ◌∷◌, ◌++◌, Option, None, Some, IfSome, IsTrue, refl, sym, ◌∙◌, ap}
use Rattle.std.proofs.Common.{subst, inl, inr, arith, map, take, ◌+◌}
use Rattle.std.proofs.lemmas.{List.Elements.All-append, List.Elements.All-contains, Map.Views.Contains-from_any, Grind.common_steps}
use Rattle.std.specs.Option.{ForSome}
use Rattle.cdm_flight.{proofs.JournalLemmas.same_name-refl, specs.Record.is_sound, specs.declared.flight.Status.Status}
use Rattle.cdm_plan.proofs.{DayPlanLemmas.record_name, DayPlanLemmas.records-next, JournalFacts.known-among}
use Rattle.cdm_plan.proofs.ListWords.{All, All-cons, All-nil, append_assoc, cons_option, filter_map, filter_map-append, option_and_then}
use Rattle.cdm_plan.proofs.ListWords.{slice_get, Contains, Contains-permutation, IsPermutation, contains_cases, false≢true, if_so, is_some}
use Rattle.cdm_plan.proofs.ListWords.{map_fixed, option_map_or, or_right, list_any-find, list_any-map, list_any-same}
use Rattle.cdm_plan.proofs.PlanWords.{same_flips, AimResult, DayRecord, DayValues, IsAim, IsDayPlan, IsSound, Plan, Flight, RunwayPlan}
use Rattle.cdm_plan.proofs.PlanWords.{RunwayRow, Early, Ready, TaxiTimes, aim_means, aim_of, blocked_in, fixed_slot, flight_of, flights_in}
use Rattle.cdm_plan.proofs.PlanWords.{is_on, is_planned, records_in, same_is, same_name, slot_by, status_of-record, taxi_of, values_of}
use Rattle.cdm_plan.proofs.PlanningLemmas.{early_at, fixed_at, stands, stands_in, target_at}
use Rattle.cdm_sequence.proofs.NameLemmas.{names_given}
use Rattle.cdm_view.{specs.declared.standing.Standing.Standing, specs.Standings.cancelled, specs.Standings.flight_name, specs.Standings.standings_of}
use Rattle.cdm_view.{specs.inner.Known.AllSound, proofs.ListLemmas.any_with, proofs.ListLemmas.filter_all, proofs.WaitingLemmas.told}
use Rattle.cdm_flight.specs.declared.flight.Status.TheVariants as status
use Rattle.cdm_view.proofs.StandingLemmas as standing

-- Flights one after another.

module _ (h : List ℕ → Option Flight) (names : List (List ℕ)) (place : ℕ) (o : Option Flight)
    (known : o ≡ option_and_then h (slice_get names place)) where
  flights_next : filter_map h (take (place + 1) names) ≡ filter_map h (take place names) ++ cons_option o []
  flights_next = records-next h names place ∙ ap (λ q. filter_map h (take place names) ++ cons_option q []) (sym known)

  -- the cancelled ones of one flight more
  pub cancelled_next : (first before after : List Standing) → before ≡ first ++ filter_map cancelled (filter_map h (take place names))
      → after ≡ before ++ filter_map cancelled (cons_option o []) → after ≡ first ++ filter_map cancelled (filter_map h (take (place + 1) names))
  cancelled_next first before after so_far more = grind (arith, common_steps, filter_map, append_assoc, cons_option, flights_next, filter_map-append)

  -- what holds of each, with one more
  pub all_next : (P : Flight → Type 0) → All P (filter_map h (take place names)) → ForSome o P → All P (filter_map h (take (place + 1) names))
  all_next P so_far here = grind (arith, common_steps, flights_next, All-append, filter_map, cons_option, All-nil, All-cons)

-- A flight that a plan shows.

module _ (times : TaxiTimes) (values : DayValues) (fs : List Flight) (f : Flight) where
  -- it stands where it stands on the runway of one of the plans
  stands_there : (ps : List RunwayPlan) (r : List ℕ) → Contains (map (λ p. p.runway) ps) r → stands times values r f ≡ true
      → stands_in times values fs ps f ≡ true
  stands_there [] r i h = absurd (omega (arith, i.1))
  stands_there (p ∷ ps) r i h = elim (contains_cases p.runway (map (λ (p : RunwayPlan). p.runway) ps) r i) [
    | inl same ↦ ap (λ s. stands times values s f || stands_in times values fs ps f) same ∙ ap (λ b. b || stands_in times values fs ps f) h
    | inr j ↦ or_right (stands times values p.runway f) (stands_in times values fs ps f) (stands_there ps r j h)
  ]

  -- and where it is blocked early
  stands_early : (ps : List RunwayPlan) → is_some (early_at times values f) ≡ true → stands_in times values fs ps f ≡ true
  stands_early [] h = h
  stands_early (p ∷ ps) h = or_right (stands times values p.runway f) (stands_in times values fs ps f) (stands_early ps h)

  module _ (ps : List RunwayPlan) (planned : (r : List ℕ) → f.runway ≡ Some r → Contains (map (λ p. p.runway) ps) r) where
    on_own : (r : List ℕ) → f.runway ≡ Some r → is_on r f ≡ true
    on_own r e = ap (λ o. option_map_or (λ s. same_name s r) o false) e ∙ same_name-refl r

    -- on its stand it is blocked early, or has a target on its runway
    planned_stands : f.status ≡ status.Planned → stands_in times values fs ps f ≡ true
    planned_stands e = by (aim_of f times values) refl (aim_means f times values)
      where
        by : (a : AimResult) → aim_of f times values ≡ a → IsAim f times values a
            → stands_in times values fs ps f ≡ true
        by (Early rule) same aim = stands_early ps (λ i. is_some (if_so (is_planned (e i)) (blocked_in f.name (same i))))
        by (Ready t) same aim =
            let target : is_some (target_at t.runway times values f) ≡ true = simp (e, same, same_name-refl t.runway) in
            stands_there ps t.runway (planned t.runway aim.runway) (or_right (is_some (fixed_at t.runway f)) _ target)

    -- off-block and airborne it has a runway
    left_stands : (s : Status) → f.status ≡ s → is_some (slot_by f s) ≡ true → is_some f.runway ≡ true → stands_in times values fs ps f ≡ true
    unfolding fixed_slot
    left_stands s e left has = by f.runway refl has
      where
        by : (o : Option (List ℕ)) → f.runway ≡ o → is_some o ≡ true → stands_in times values fs ps f ≡ true
        by None same h = absurd (false≢true h)
        by (Some r) same h =
            let fixed : is_some (fixed_at r f) ≡ true = (λ i. is_some (if_so (on_own r same i) (slot_by f (e i)))) ∙ left in
            stands_there ps r (planned r same) (ap (λ b. b || is_some (target_at r times values f)) fixed)

    -- a sound flight stands or is cancelled
    sound_stands : IsTrue (is_sound f.runway f.status) → (stands_in times values fs ps f || is_some (cancelled f)) ≡ true
    sound_stands sound = by f.status refl sound
      where
        by : (s : Status) → f.status ≡ s → is_sound f.runway s ≡ true → (stands_in times values fs ps f || is_some (cancelled f)) ≡ true
        by s e h = grind (arith, planned_stands, left_stands s e)

-- The flights of a day.

module _ (d : DayRecord) where
  abbrev pub flights : List Flight
  flights = records_in d.airport d.journal

  -- the journal says something of each flight that it makes known
  pub each_recorded : (f : List ℕ) → Contains (flights_in d.journal) f → is_some (flight_of d.airport d.journal f) ≡ true
  unfolding flight_of
  each_recorded f i = grind (arith, common_steps, any_with, same_name-refl, known-among)

  -- so the known flights are those that it says something of
  known_named : map (λ (f : Flight). f.name) flights ≡ flights_in d.journal
  known_named =
      names_given (λ (f : Flight). f.name) (λ n. n) (flight_of d.airport d.journal) (λ n. named n (flight_of d.airport d.journal n) refl) (flights_in d.journal)
      ∙ (ap (map (λ (n : List ℕ). n)) (filter_all (λ n. is_some (flight_of d.airport d.journal n)) (flights_in d.journal) each_recorded)
      ∙ map_fixed (λ (n : List ℕ). n) (flights_in d.journal) (λ k n l. refl))
    where
      named : (n : List ℕ) (o : Option Flight) → flight_of d.airport d.journal n ≡ o → IfSome o (λ f. f.name ≡ n)
      named n o e = grind (arith, record_name d.airport d.journal n)

  -- the runway of a flight is one of the airport's
  own_runway : IsSound d → (f : Flight) → Contains (flights) f → (r : List ℕ) → f.runway ≡ Some r → Contains (map (λ row. row.name) d.airport.runways) r
  own_runway sound f i r e =
      let says = status_of-record f.name d.airport d.journal f (told d f i) in
      let has = sound.runways f.name r (ap (λ (x : Flight). x.runway) says.1 ∙ e) in
      let rows = d.airport.runways in
      let name : RunwayRow → List ℕ = λ row. row.name in
      let test : RunwayRow → Bool = λ row. same_name row.name r in
      let flips = list_any-same (λ row. same_name r (name row)) test (λ row. same_flips r (name row)) rows in
      let found = list_any-map (same_name r) name rows ∙ (flips ∙ (list_any-find test rows ∙ has)) in
      Contains-from_any same_is r (map name rows) found

  -- each known flight has one standing, and no other has one
  pub each_stands : (plan : Plan) → AllSound d → IsDayPlan d plan
      → IsPermutation (flights_in d.journal) (map flight_name (standings_of d plan))
  each_stands plan sound is =
      let fs = flights in
      let times = taxi_of d.airport d.journal in
      let values = values_of d.journal in
      let plans = standing.runways_planned d plan sound.day.airport.names is in
      let all = filter_all (λ f. standing.stands d plan f || is_some (cancelled f)) fs (λ f i.
      sound_stands times values fs f plan.runways
      (λ r e. Contains-permutation _ (map (λ (p : RunwayPlan). p.runway) plan.runways) r plans (own_runway sound.day f i r e))
      (All-contains (λ (f : Flight). IsTrue (is_sound f.runway f.status)) fs f sound.flights i)) in
      subst (λ (ns : List (List ℕ)). IsPermutation ns (map flight_name (standings_of d plan)))
      (ap (map (λ (f : Flight). f.name)) all ∙ known_named) (standing.standings_named d plan sound.day.airport.names is)
