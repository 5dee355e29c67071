-- The standings of a day have names of their own, and are one list.
use Rattle.std.proofs.Common.{◌≡◌, ℕ, Bool, true, false, ◌||◌, List, [], ◌∷◌, ◌++◌, None, Some, refl, sym, ◌∙◌, ap, map, filter, IfSome}
use Rattle.std.proofs.{Common.arith, lemmas.Grind.common_steps}
use Rattle.cdm_plan.proofs.{NameLemmas.by_name, NameLemmas.runway-names, OnePlanLemmas.flat_map-parts}
use Rattle.cdm_plan.proofs.ListWords.{is_some, All-permutation, AllZip, IsDistinct, IsDistinct-IsPermutation, IsPermutation}
use Rattle.cdm_plan.proofs.ListWords.{IsPermutation-append_comm, IsPermutation-append_left, IsPermutation-append_right, IsPermutation-map}
use Rattle.cdm_plan.proofs.ListWords.{IsPermutation-trans, append_assoc, distinct_filter, filter_map, flat_map, if_so, if◌then◌else◌}
use Rattle.cdm_plan.proofs.ListWords.{map-append}
use Rattle.cdm_plan.proofs.PlanWords.{BlockedFlight, DayRecord, IsDayPlan, IsSequenceBy, Plan, Flight, RunwayPlan, RunwayRules, Slot}
use Rattle.cdm_plan.proofs.PlanWords.{HasParts, day_rules, fixed_on, flights_in, DayValues, TaxiTimes, is_on, is_planned, planned_of}
use Rattle.cdm_plan.proofs.PlanWords.{records_in, runway_names, same_flips, same_name, fixed_slot, blocked_in, aim_of, targets_in}
use Rattle.cdm_plan.proofs.PlanWords.{targets_on, taxi_of, values_of}
use Rattle.cdm_plan.proofs.DayPlanLemmas.{HasSequence, has_sequence, record_names_differ, targets_at}
use Rattle.cdm_plan.proofs.PlanningLemmas.{AllZip-weaker, Shows, aims_are, blocked_early, early-aims, made_named, once, shows_made}
use Rattle.cdm_plan.proofs.PlanningLemmas.{stands_in, parted}
use Rattle.cdm_sequence.proofs.NameLemmas.{names_given}
use Rattle.cdm_view.specs.declared.standing.Standing.{Standing, TheVariants.OnRunway, TheVariants.Blocked, TheVariants.Cancelled}
use Rattle.cdm_view.specs.Standings.{AreStandings, cancelled, flight_name, is_cancelled, on_runway, standings_of}
use Rattle.cdm_flight.specs.declared.flight.Status.TheVariants as status

-- Lists.

-- the names of lists put together
names_of_lists : {X Y : Type 0} (f : X → List Y) (name : Y → List ℕ) (xs : List X) → flat_map (λ x. map name (f x)) xs ≡ map name (flat_map f xs)
names_of_lists f name [] = refl
names_of_lists f name (x ∷ xs) = ap (λ (ns : List (List ℕ)). map name (f x) ++ ns) (names_of_lists f name xs) ∙ sym (map-append name (f x) (flat_map f xs))

-- The names of standings.

map_named : {X : Type 0} (to : X → Standing) (xs : List X)
    → map flight_name (map to xs) ≡ map (λ x. flight_name (to x)) xs
map_named to [] = refl
map_named to (x ∷ xs) = ap (λ (ns : List (List ℕ)). flight_name (to x) ∷ ns) (map_named to xs)

runways_named : (plans : List RunwayPlan) → map flight_name (flat_map on_runway plans) ≡ flat_map (λ p. map (λ s. s.name) p.slots) plans
runways_named plans =
    sym (names_of_lists on_runway flight_name plans)
    ∙ (λ i. flat_map (λ p. map_named (OnRunway p.runway) p.slots i) plans)

cancelled_named : (fs : List Flight) → map flight_name (filter_map cancelled fs) ≡ map (λ f. f.name) (filter (λ f. is_some (cancelled f)) fs)
cancelled_named fs = names_given flight_name (λ f. f.name) cancelled (λ f. by f (is_cancelled f.status)) fs
  where
    by : (f : Flight) (b : Bool) → IfSome (if b then Some (Cancelled f.name) else None) (λ s. flight_name s ≡ f.name)
    by f b = grind arith

no_slot : (b : Bool) → is_some {T = Slot} (if_so b None) ≡ false
no_slot b = grind arith

module _ (d : DayRecord) (plan : Plan) where
  abbrev flights : List Flight
  flights = records_in d.airport d.journal

  abbrev times : TaxiTimes
  times = taxi_of d.airport d.journal

  abbrev values : DayValues
  values = values_of d.journal

  -- the day's plan has the sequences of its runways
  pub record Parts : Type 0 where
    pub made : List RunwayPlan
    pub sequences : AllZip (HasSequence d) (day_rules d) made
    pub parts : HasParts (blocked_early flights times values) made plan

  pub parts_on : IsDayPlan d plan → Parts
  unfolding IsDayPlan
  parts_on (placing, aims, by) =
      let are = aims_are times values (planned_of flights) aims by.aimed in
      let placed : RunwayRules → RunwayPlan → Type 0 =
      λ r p. IsSequenceBy placing r (fixed_on r.name flights) (targets_on r.name (targets_in aims)) p in
      record {
        made = by.made;
        sequences = AllZip-weaker placed (HasSequence d)
            (λ r p h. has_sequence d r p record { aims = aims; aimed = by.aimed; sequence = (placing, h) })
            (day_rules d) by.made by.sequences;
        parts = rw (← early-aims times values flights, are) by.parts;
      }

  abbrev pub stands : Flight → Bool
  stands f = stands_in times values flights plan.runways f

  -- a cancelled flight has no slot, and isn't blocked
  nowhere : (f : Flight) → f.status ≡ status.Cancelled → (ps : List RunwayPlan)
      → stands_in times values flights ps f ≡ false
  unfolding fixed_slot
  nowhere f gone [] = ap (λ s. is_some (if_so (is_planned s) (blocked_in f.name (aim_of f times values)))) gone
  nowhere f gone (p ∷ ps) = simp (gone, no_slot (is_on p.runway f), nowhere f gone ps)

  -- what stands isn't cancelled
  stands_apart : (f : Flight) → stands f ≡ true → is_some (cancelled f) ≡ false
  stands_apart f h = grind (arith, common_steps, stands, nowhere)

  module _ (own : IsDistinct same_name (runway_names d.airport)) (is : IsDayPlan d plan) where
    abbrev parts : Parts
    parts = parts_on is

    -- the plans have the names of the runways
    pub plans_named : IsPermutation (map (λ r. r.name) (day_rules d)) (map (λ p. p.runway) plan.runways)
    plans_named =
        rw (← made_named (λ r. fixed_on r flights) (targets_at d) (day_rules d) parts.made parts.sequences)
        (IsPermutation-map (λ (p : RunwayPlan). p.runway) parts.made plan.runways parts.parts.runways)

    -- each runway of the airport has a plan
    pub runways_planned : IsPermutation (runway_names d.airport) (map (λ p. p.runway) plan.runways)
    runways_planned = rw (← runway-names d.airport d.journal d.airport.runways) plans_named

    -- the flights that stand have the names of the slots and of the blocked flights
    stand_named : IsPermutation (map (λ f. f.name) (filter stands flights))
        (map flight_name (flat_map on_runway plan.runways) ++ map flight_name (map Blocked plan.blocked))
    stand_named =
        let name : BlockedFlight → List ℕ = λ b. b.name in
        let slots : RunwayPlan → List (List ℕ) = λ p. map (λ x. x.name) p.slots in
        let blocked : RunwayPlan → List (List ℕ) = λ p. map name p.blocked in
        let ps = plan.runways in
        let early = map name (blocked_early flights times values) in
        let shown = shows_made times values flights (day_rules d) parts.made parts.sequences in
        let all = once times values flights ps (IsDistinct-IsPermutation same_name same_flips _ _ runways_planned own)
        (All-permutation (Shows times values flights) parts.made ps parts.parts.runways shown) in
        let front = IsPermutation-append_left early _ _ (flat_map-parts slots blocked ps) in
        let back = IsPermutation-append_right (flat_map slots ps) _ _ (IsPermutation-append_comm (flat_map blocked ps) early) in
        let whole = IsPermutation-trans _ _ _ (IsPermutation-trans _ _ _ all front)
        (rw (append_assoc (flat_map slots ps) (flat_map blocked ps) early) back) in
        let lists : RunwayPlan → List BlockedFlight = λ p. p.blocked in
        let left = blocked_early flights times values ++ flat_map lists ps in
        let held = IsPermutation-map name left plan.blocked parts.parts.blocked in
        let told = IsPermutation-append_right (flat_map slots ps) _ _ held in
        rw (runways_named ps, map_named Blocked plan.blocked)
        (IsPermutation-trans _ (flat_map slots ps ++ map name left) _
        (rw (map-append name (blocked_early flights times values) _, ← names_of_lists lists name ps) whole) told)

    -- the standings have the names of the flights that stand and of those that are cancelled
    pub standings_named : IsPermutation (map (λ f. f.name) (filter (λ f. stands f || is_some (cancelled f)) flights))
        (map flight_name (standings_of d plan))
    standings_named =
        let name : Flight → List ℕ = λ f. f.name in
        let gone : Flight → Bool = λ f. is_some (cancelled f) in
        let on = flat_map on_runway plan.runways in
        let held = map Blocked plan.blocked in
        let split = IsPermutation-map name _ _ (parted stands gone stands_apart flights) in
        let named : map flight_name (standings_of d plan)
        ≡ (map flight_name on ++ map flight_name held) ++ map name (filter gone flights) =
        map-append flight_name (on ++ held) (filter_map cancelled flights)
        ∙ λ i. map-append flight_name on held i ++ cancelled_named flights i in
        rw named
        (IsPermutation-trans _ _ _ (rw (map-append name (filter stands flights) (filter gone flights)) at split)
        (IsPermutation-append_left (map name (filter gone flights)) _ _ stand_named))

  -- they have names of their own
  pub standings_apart : IsDistinct same_name (runway_names d.airport) → IsDistinct same_name (flights_in d.journal) → IsDayPlan d plan
      → IsDistinct same_name (map flight_name (standings_of d plan))
  standings_apart runways own is =
      IsDistinct-IsPermutation same_name same_flips _ _ (standings_named runways is)
      (distinct_filter same_name (λ (f : Flight). f.name) (λ f. stands f || is_some (cancelled f)) flights (record_names_differ d own))

-- a day with its plan has one list of standings
pub one_standings : (d : DayRecord) (plan : Plan) → IsDistinct same_name (runway_names d.airport) → IsDistinct same_name (flights_in d.journal)
    → IsDayPlan d plan → (x y : List Standing) → AreStandings d plan x → AreStandings d plan y → x ≡ y
one_standings d plan runways own is x y a b =
    by_name flight_name (standings_of d plan) x y (standings_apart d plan runways own is) a.all b.all a.by_name b.by_name
