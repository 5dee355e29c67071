-- What updates do not touch stands.
use Rattle.std.proofs.lemmas.Grind.{common_steps}
use Rattle.std.proofs.Common.{arith, rules, [], ◌≡◌, ℕ, Bool, true, false, ◌&&◌, not, cond, filter, List, ◌∷◌, ◌++◌, Option, None, Some}
use Rattle.std.proofs.{Common.{IfSome, refl, sym, ◌∙◌, ap, subst}, lemmas.Bool.{and_left, and_right, true≢false}}
use Rattle.cdm_plan.proofs.ListWords.{is_some, option_map_or, if◌then◌else◌, All, Contains, cons_option, filter_map, find, flat_map}
use Rattle.cdm_plan.proofs.ListWords.{append-nil, filter-append, filter_map-append, filter_map-filter, filter_map_same}
use Rattle.cdm_plan.proofs.ListWords.{Contains-permutation, IsPermutation, IsPermutation-filter, IsPermutation-refl, IsPermutation-sym}
use Rattle.cdm_plan.proofs.ListWords.{All-head, All-tail, All-weaker, All-permutation, contains_from_given, contains_from_map, contains_map}
use Rattle.cdm_plan.proofs.ListWords.{if_so, one_of_key}
use Rattle.cdm_plan.proofs.PlanWords.{DayValues, RunwayRow, Place, Update, reach_of, same_name, same_reach, Flight, is_planned, flight_of}
use Rattle.cdm_plan.proofs.PlanWords.{values_of, values_of-untouched, taxi_of, taxi_of-untouched, flight_of-untouched, RunwayRules}
use Rattle.cdm_plan.proofs.PlanWords.{TaxiTimes, Slot, fixed_slot, takeoffs, IsSequence, IsSequenceBy, Plan, RunwayPlan, Target, AimResult}
use Rattle.cdm_plan.proofs.PlanWords.{BlockedFlight, aim_means, aim_of, is_same, same_flips, same_is, if_on, if_passes, DayRecord}
use Rattle.cdm_plan.proofs.PlanWords.{flights_in, new_flight, rules_of, with_update, IsDayPlan, day_rules, records_in, is_on, blocked_in}
use Rattle.cdm_plan.proofs.PlanWords.{early_in, planned_of, target_in, targets_in, targets_on, fixed_on, Adds, AreAims, AreKept}
use Rattle.cdm_plan.proofs.PlanWords.{AreSameElsewhere, IsMade, IsPlanOn, IsSince, counts, fixed_in, is_counted, is_early, is_kept_blocked}
use Rattle.cdm_plan.proofs.PlanWords.{is_noted, counted_on, is_touched, is_untouched, kept_blocked, kept_of, kept_plan}
use Rattle.cdm_plan.proofs.AskedLemmas.{both, untouched_counts, untouched_on, untouched_runway}
use Rattle.cdm_plan.proofs.JournalFacts.{flight_named, flights_in-push, some_named}
use Rattle.cdm_plan.proofs.DayPlanLemmas.{has_sequence, is_plan_on, record_name, record_names_differ, targets_at}
use Rattle.cdm_plan.proofs.{NameLemmas.{day_rules_differ, find_none, find_some}, OnePlanLemmas.partner}
use Rattle.cdm_plan.proofs.PlanningLemmas.{AllZip-weaker, aims_are, all_zipped, blocked_early, early-aims, early-given, early_at}
use Rattle.cdm_plan.proofs.PlanningLemmas.{filter-filter_map, fixed_on-given, made_named, names_on, no_aim_at, no_fixed_at, no_target_at}
use Rattle.cdm_plan.proofs.{PlanningLemmas.{target_at, targets_of, targets_on-given}, RunwayLemmas.rules-same}
use Rattle.cdm_plan.specs.declared.touched.{Noting.Noting, Touched.Touched}
use Rattle.cdm_flight.specs.declared.reach.Reach.{Reach}
use Rattle.cdm_flight.specs.declared.reach.Reach.TheVariants as reach
use Rattle.cdm_sequence.specs.{Plan.{Placing, taken_before}, Sequence.{Blocks, IsRightlyBlocked}, declared.rule.Rule.Rule}
use Rattle.cdm_sequence.{specs.declared.rule.Rule.TheVariants.Runway, proofs.OneLemmas.sequence_one}
use Rattle.cdm_runway.specs.declared.load.Taken.{Taken}
use Rattle.cdm_plan.specs.declared.touched.Touched.TheVariants as touched

-- What an update that is not of a runway leaves there.

module _ (n : Noting) (d : DayRecord) (r : List ℕ) where
  no_value : (what : Reach) → is_noted n d what r ≡ false → same_reach what reach.Day ≡ false
  no_value what h = search rules

  no_taxi : (what : Reach) → is_noted n d what r ≡ false → same_reach what (reach.Taxi r) ≡ false
  no_taxi what h = search rules

  no_rule : (what : Reach) → is_noted n d what r ≡ false → same_reach what (reach.Runway r) ≡ false
  no_rule what h = search rules

fresh_is : (u : Update) (f : List ℕ) → new_flight u ≡ Some f → reach_of u ≡ reach.Flight f
fresh_is u f e = search rules

-- a flight that counts is among those whose updates touch their runway
counted : (n : Noting) (f : Flight) → counts f ≡ true → is_counted n f ≡ true
counted n f h = search rules

-- the flights that pass count on runways that are not of what is touched
abbrev IsOff : Noting → DayRecord → Reach → (Flight → Bool) → Type 0
IsOff n d what test = (f : Flight) → test f ≡ true → (r : List ℕ) × (f.runway ≡ Some r) × (is_noted n d what r ≡ false) × (counts f ≡ true)

-- so the flight that is touched does not pass
none_passes : (n : Noting) (d : DayRecord) (what : Reach) (k : List ℕ) (test : Flight → Bool) → IsOff n d what test → what ≡ reach.Flight k
    → if_passes test (flight_of d.airport d.journal k) ≡ None
none_passes n d what k test off e = search (rules, counted)

-- where the flight that is touched does not pass, neither before nor after
module _ (d : DayRecord) (u : Update) (test : Flight → Bool) (before : (k : List ℕ) → reach_of u ≡ reach.Flight k → if_passes test (flight_of d.airport d.journal k) ≡ None)
    (after : (k : List ℕ) → reach_of u ≡ reach.Flight k → if_passes test (flight_of d.airport (d.journal ++ u ∷ []) k) ≡ None) where
  -- the flights that pass are the same after the update
  flight_same : (k : List ℕ) → if_passes test (flight_of d.airport d.journal k) ≡ if_passes test (flight_of d.airport (d.journal ++ u ∷ []) k)
  flight_same k = search (rules, flight_of-untouched, flight_named)

  pub flights_same : filter test (records_in d.airport d.journal) ≡ filter test (records_in d.airport (d.journal ++ u ∷ []))
  flights_same =
      let later : List ℕ → Option Flight = λ k. if_passes test (flight_of d.airport (d.journal ++ u ∷ []) k) in
      let old = flights_in d.journal in
      filter-filter_map test (flight_of d.airport d.journal) old
      ∙ ((λ i. filter_map (λ k. flight_same k i) old)
      ∙ (sym (ap (filter_map later) (flights_in-push d.journal u)
      ∙ (filter_map-append later old (cons_option (new_flight u) [])
      ∙ (ap (λ l. filter_map later old ++ l) (new (new_flight u) refl) ∙ append-nil (filter_map later old))))
      ∙ sym (filter-filter_map test (flight_of d.airport (d.journal ++ u ∷ [])) (flights_in (d.journal ++ u ∷ [])))))
    where
      new : (o : Option (List ℕ)) → new_flight u ≡ o → filter_map (λ k. if_passes test (flight_of d.airport (d.journal ++ u ∷ []) k)) (cons_option o []) ≡ []
      new o e = search (rules, fresh_is)

-- what an update leaves that touches something else
ruleset what_stays = (rules-same, no_rule, taxi_of-untouched, no_taxi, values_of-untouched, no_value)

-- since the first day, after one more update
pub since_taken : (n : Noting) (first d next : DayRecord) (s m t : Touched) (u : Update) → next ≡ with_update d u → Adds s (is_noted n d (reach_of u)) m
    → Adds m (is_noted n next (reach_of u)) t → IsSince first s d → IsSince first t next
since_taken n first d next s m t u is more later since =
    search (rules, what_stays, untouched_runway, untouched_on, untouched_counts, none_passes, flight_same, flights_same)

-- at first nothing changed
pub since_itself : (d : DayRecord) (t : Touched) → IsSince d t d
since_itself d t = search rules

-- What stands of the first day's plan.

-- a flight's aim depends on the taxi times to its own runway alone
same_aim : (f : Flight) (r : List ℕ) → f.runway ≡ Some r → (s t : TaxiTimes) (values : DayValues) → ((place : Place) → s place r ≡ t place r)
    → aim_of f s values ≡ aim_of f t values
unfolding aim_of
same_aim f r e s t values same = grind (arith, common_steps)

-- the flights that count on a runway
abbrev counts_on : List ℕ → Flight → Bool
counts_on r f = counts f && is_on r f

-- the fixed flights and the targets of a runway are those of the flights that count there
fixed_on-own : (r : List ℕ) (fs : List Flight) → fixed_on r fs ≡ filter_map fixed_slot (filter (counts_on r) fs)
fixed_on-own r fs = search (rules, fixed_on-given, filter_map-filter, no_fixed_at)

targets_on-own : (r : List ℕ) (times : TaxiTimes) (values : DayValues) (fs : List Flight)
    → targets_on r (targets_of fs times values) ≡ filter_map (target_at r times values) (filter (counts_on r) fs)
targets_on-own r times values fs = search (rules, targets_on-given, filter_map-filter, no_target_at, no_aim_at)

-- what is blocked early has its flight's name, and an early rule
abbrev IsEarlyOf : Flight → BlockedFlight → Type 0
IsEarlyOf f b = (b.name ≡ f.name) × (is_early b.rule ≡ true)

early_of : (times : TaxiTimes) (values : DayValues) (f : Flight) → IfSome (early_at times values f) (IsEarlyOf f)
early_of times values f = search (rules, aim_means)

-- the runway's traffic blocks by other rules
late_rule : (r : RunwayRules) (taken : List Taken) (f : Target) (rule : Rule) → Blocks r taken f rule → is_early rule ≡ false
late_rule r taken f rule h = search rules

abbrev IsLate : BlockedFlight → Type 0
IsLate b = is_early b.rule ≡ false

abbrev AreLate : RunwayPlan → Type 0
AreLate p = All IsLate p.blocked

late_plan : (placing : Placing) (r : RunwayRules) (fixed : List Slot) (targets : List Target) (p : RunwayPlan)
    → IsSequenceBy placing r fixed targets p → AreLate p
late_plan placing r fixed targets p h = All-weaker (IsRightlyBlocked r (takeoffs r fixed) targets placing) IsLate
    (λ b w. late_rule r (taken_before r (takeoffs r fixed) targets placing w.0) w.0 b.rule w.3) p.blocked h.rules

module _ (first d : DayRecord) (t : Touched) (since : IsSince first t d) where
  abbrev flights_first : List Flight
  flights_first = records_in first.airport first.journal

  abbrev flights_now : List Flight
  flights_now = records_in d.airport d.journal

  abbrev times_first : TaxiTimes
  times_first = taxi_of first.airport first.journal

  abbrev times_now : TaxiTimes
  times_now = taxi_of d.airport d.journal

  abbrev values_first : DayValues
  values_first = values_of first.journal

  abbrev values_now : DayValues
  values_now = values_of d.journal

  aim_stands : (f : Flight) (r : List ℕ) → f.runway ≡ Some r → is_touched t r ≡ false → aim_of f times_first values_first ≡ aim_of f times_now values_now
  aim_stands f r e h = same_aim f r e times_first times_now values_first (since.taxi r h) ∙ ap (aim_of f times_now) (since.values r h)

  -- a runway that was not touched keeps its sequence
  still_planned : (row : RunwayRow) (p : RunwayPlan) → is_touched t row.name ≡ false → IsPlanOn first (rules_of first.airport first.journal row) p
      → IsPlanOn d (rules_of d.airport d.journal row) p
  unfolding rules_of
  still_planned row p h old =
      let r = row.name in
      let x = rules_of first.airport first.journal row in
      let its : filter (counts_on r) flights_first ≡ filter (counts_on r) flights_now =
      since.flights (counts_on r) (λ f on. let each = both (counts f) (is_on r f) on in untouched_on t f r each.0 (some_named f.runway r each.1) h) in
      let fixed : fixed_in first r ≡ fixed_in d r = fixed_on-own r flights_first ∙ (ap (filter_map fixed_slot) its ∙ sym (fixed_on-own r flights_now)) in
      let targets : targets_at first r ≡ targets_at d r =
      targets_on-own r times_first values_first flights_first
      ∙ ((λ i. filter_map (λ f. target_same r h f i) (its i)) ∙ sym (targets_on-own r times_now values_now flights_now)) in
      let old_targets = subst (λ (xs : List Slot). IsSequence x xs (targets_at first r) p) fixed (has_sequence first x p old) in
      let there = subst (λ (ts : List Target). IsSequence x (fixed_in d r) ts p) targets old_targets in
      subst (λ (y : RunwayRules). IsPlanOn d y p) (since.rules row h) (is_plan_on d x p there)
    where
      target_same : (r : List ℕ) → is_touched t r ≡ false → (f : Flight) → target_at r times_first values_first f ≡ target_at r times_now values_now f
      target_same r h f = by (is_on r f) refl
        where
          by : (b : Bool) → is_on r f ≡ b → target_at r times_first values_first f ≡ target_at r times_now values_now f
          by false off = no_target_at r times_first values_first f off ∙ sym (no_target_at r times_now values_now f off)
          by true on = ap (λ a. if_so (is_planned f.status) (if_on r (target_in a))) (aim_stands f r (some_named f.runway r on) h)

  -- a flight that need not be asked is blocked early where it was
  still_early : filter (is_kept_blocked d t) (blocked_early flights_first times_first values_first) ≡ blocked_early (kept_of t flights_now) times_now values_now
  still_early =
      let test = is_kept_blocked d t in
      ap (filter test) (early-given times_first values_first flights_first)
      ∙ (filter-filter_map test (early_at times_first values_first) flights_first
      ∙ (filter_map_same (λ f. if_passes test (early_at times_first values_first f)) (λ f. if_so (is_untouched t f) (early_at times_now values_now f)) flights_first
      (λ f i. each f (found f i) (is_untouched t f) refl)
      ∙ (sym (filter_map-filter (early_at times_now values_now) (is_untouched t) flights_first)
      ∙ (ap (filter_map (early_at times_now values_now)) (since.flights (is_untouched t) (λ f h. h)) ∙ sym (early-given times_now values_now (kept_of t flights_now))))))
    where
      passes : (o : Option Flight) → option_map_or (is_untouched t) o false ≡ is_some (if_passes (is_untouched t) o)
      passes o = search rules

      -- it is kept now as it was
      found : (f : Flight) → Contains flights_first f → option_map_or (is_untouched t) (flight_of d.airport d.journal f.name) false ≡ is_untouched t f
      found f i =
          let from = contains_from_given (flight_of first.airport first.journal) (flights_in first.journal) f i in
          let k = from.0 in
          ap (λ n. option_map_or (is_untouched t) (flight_of d.airport d.journal n) false) (record_name first.airport first.journal k f from.2)
          ∙ (passes (flight_of d.airport d.journal k) ∙ (ap is_some (sym (since.flight (is_untouched t) (λ f h. h) k))
          ∙ (ap (λ o. is_some (if_passes (is_untouched t) o)) from.2 ∙ sym (passes (Some f)))))

      out : (f : Flight) → option_map_or (is_untouched t) (flight_of d.airport d.journal f.name) false ≡ false → (o : Option BlockedFlight)
          → IfSome o (IsEarlyOf f) → if_passes (is_kept_blocked d t) o ≡ None
      out f now o h = search (rules, and_right)

      stay : (f : Flight) → option_map_or (is_untouched t) (flight_of d.airport d.journal f.name) false ≡ true → (o : Option BlockedFlight)
          → IfSome o (IsEarlyOf f) → if_passes (is_kept_blocked d t) o ≡ o
      stay f now o h = search rules

      each : (f : Flight) → option_map_or (is_untouched t) (flight_of d.airport d.journal f.name) false ≡ is_untouched t f → (b : Bool) → is_untouched t f ≡ b
          → if_passes (is_kept_blocked d t) (early_at times_first values_first f) ≡ if_so b (early_at times_now values_now f)
      each f now false e = out f (now ∙ e) (early_at times_first values_first f) (early_of times_first values_first f)
      each f now true e =
          let at = untouched_runway t f e in
          stay f (now ∙ e) (early_at times_first values_first f) (early_of times_first values_first f)
          ∙ ap (λ a. if_so (is_planned f.status) (blocked_in f.name a)) (aim_stands f at.0 at.1 at.2)

  -- nor are others kept
  none_late : (ps : List RunwayPlan) → All AreLate ps → filter (is_kept_blocked d t) (flat_map (λ p. p.blocked) ps) ≡ []
  none_late [] all = refl
  none_late (p ∷ ps) all =
      filter-append (is_kept_blocked d t) p.blocked (flat_map (λ p. p.blocked) ps)
      ∙ (λ i. none p.blocked (All-head AreLate p ps all) i ++ none_late ps (All-tail AreLate p ps all) i)
    where
      none : (bs : List BlockedFlight) → All IsLate bs → filter (is_kept_blocked d t) bs ≡ []
      none [] late = refl
      none (b ∷ bs) late =
          let here = and_left (is_early b.rule) (option_map_or (is_untouched t) (flight_of d.airport d.journal b.name) false) (All-head IsLate b bs late) in
          ap (λ x. cond x (b ∷ filter (is_kept_blocked d t) bs) (filter (is_kept_blocked d t) bs)) here ∙ none bs (All-tail IsLate b bs late)

  -- a runway of the day is one of the first day's rows
  its_row : (r : RunwayRules) → Contains (day_rules d) r
      → (row : RunwayRow) × (row.name ≡ r.name) × Contains (day_rules first) (rules_of first.airport first.journal row)
      × (rules_of d.airport d.journal row ≡ r)
  unfolding rules_of
  its_row r i =
      let at = contains_from_map (rules_of d.airport d.journal) d.airport.runways r i in
      let row = at.0 in
      let among : Contains first.airport.runways row = subst (λ g. Contains g.runways row) since.airport at.1 in
      (row, ap (λ (x : RunwayRules). x.name) at.2, contains_map (rules_of first.airport first.journal) first.airport.runways row among, at.2)

  module _ (plan : Plan) (made : IsMade first plan) where
    runway_stands : (r : RunwayRules) → Contains (day_rules d) r → kept_plan t plan.runways r.name ≡ None → is_touched t r.name ≡ true
    unfolding IsDayPlan rules_of
    runway_stands r i e = by (is_touched t r.name) e
      where
        by : (b : Bool) → (if b then None else find (λ p. same_name p.runway r.name) plan.runways) ≡ None → b ≡ true
        by true k = refl
        by false k =
            let placing = made.of_day.0 in
            let aims = made.of_day.1 in
            let day = made.of_day.2 in
            let row = its_row r i in
            let R : RunwayRules → RunwayPlan → Type 0 = λ x p. IsSequenceBy placing x (fixed_in first x.name) (targets_on x.name (targets_in aims)) p in
            let named = made_named (fixed_in first) (λ n. targets_on n (targets_in aims)) (day_rules first) day.made
            (AllZip-weaker R (λ x p. IsSequence x (fixed_in first x.name) (targets_on x.name (targets_in aims)) p) (λ x p h. (placing, h)) (day_rules first) day.made day.sequences) in
            let name = contains_map (λ (x : RunwayRules). x.name) (day_rules first) (rules_of first.airport first.journal row.0) row.2 in
            let at = contains_from_map (λ (p : RunwayPlan). p.runway) day.made row.0.name
            (subst (λ (ns : List (List ℕ)). Contains ns row.0.name) (sym named) name) in
            let there = Contains-permutation day.made plan.runways at.0 day.parts.runways at.1 in
            absurd (true≢false (sym (is_same at.0.runway r.name (at.2 ∙ row.1))
            ∙ find_none (λ (p : RunwayPlan). same_name p.runway r.name) plan.runways k at.0 there))

    -- the plan of a runway that was not touched is its plan on the day
    named_stands : (r : RunwayRules) (p : RunwayPlan) → Contains (day_rules d) r → Contains plan.runways p → p.runway ≡ r.name → is_touched t r.name ≡ false
        → IsPlanOn d r p
    unfolding IsDayPlan rules_of
    named_stands r p i among named h =
        let placing = made.of_day.0 in
        let aims = made.of_day.1 in
        let day = made.of_day.2 in
        let rules : RunwayRow → RunwayRules = rules_of first.airport first.journal in
        let R : RunwayRules → RunwayPlan → Type 0 = λ x p. IsSequenceBy placing x (fixed_in first x.name) (targets_on x.name (targets_in aims)) p in
        let old = partner R (day_rules first) day.made p day.sequences
        (Contains-permutation plan.runways day.made p (IsPermutation-sym day.made plan.runways day.parts.runways) among) in
        let row = its_row r i in
        let name : old.0.name ≡ row.0.name = sym old.1.runway ∙ (named ∙ sym row.1) in
        let one : old.0 ≡ rules row.0 = one_of_key same_name same_flips (λ (x : RunwayRules). x.name) (day_rules first) old.0 (rules row.0)
        (day_rules_differ first made.sound.airport.names) old.2 row.2 (is_same old.0.name (rules row.0).name name) in
        let here : IsPlanOn first (rules row.0) p = subst (λ (x : RunwayRules). IsPlanOn first x p) one
        (record { aims = aims; aimed = day.aimed; sequence = (placing, old.1) }) in
        subst (λ (x : RunwayRules). IsPlanOn d x p) row.3 (still_planned row.0 p (ap (is_touched t) row.1 ∙ h) here)

    plan_stands : (r : RunwayRules) (p : RunwayPlan) → Contains (day_rules d) r → kept_plan t plan.runways r.name ≡ Some p → IsPlanOn d r p
    plan_stands r p i e = search (rules, find_some, named_stands, same_is)

    early_stands : (aims : List AimResult) → AreAims (kept_of t flights_now) times_now values_now aims
        → IsPermutation (early_in (kept_of t flights_now) aims) (kept_blocked d t plan.blocked)
    unfolding IsDayPlan
    early_stands aims are =
        let day = made.of_day.2 in
        let kept = kept_of t flights_now in
        let R : RunwayRules → RunwayPlan → Type 0 =
        λ x p. IsSequenceBy made.of_day.0 x (fixed_in first x.name) (targets_on x.name (targets_in made.of_day.1)) p in
        let late = All-permutation AreLate day.made plan.runways day.parts.runways
        (all_zipped R AreLate (λ x p h. late_plan made.of_day.0 x (fixed_in first x.name) (targets_on x.name (targets_in made.of_day.1)) p h)
        (day_rules first) day.made day.sequences) in
        let at_first : early_in flights_first made.of_day.1 ≡ blocked_early flights_first times_first values_first =
        ap (early_in flights_first) (sym (aims_are times_first values_first (planned_of flights_first) made.of_day.1 day.aimed))
        ∙ early-aims times_first values_first flights_first in
        let at_last : early_in kept aims ≡ blocked_early kept times_now values_now =
        ap (early_in kept) (sym (aims_are times_now values_now (planned_of kept) aims are)) ∙ early-aims times_now values_now kept in
        let stands : filter (is_kept_blocked d t) (early_in flights_first made.of_day.1) ≡ early_in kept aims =
        ap (filter (is_kept_blocked d t)) at_first ∙ (still_early ∙ sym at_last) in
        let late_ones = flat_map (λ (p : RunwayPlan). p.blocked) plan.runways in
        let whole = IsPermutation-filter (is_kept_blocked d t) (early_in flights_first made.of_day.1 ++ late_ones) plan.blocked day.parts.blocked in
        let left : filter (is_kept_blocked d t) (early_in flights_first made.of_day.1 ++ late_ones) ≡ early_in kept aims =
        filter-append (is_kept_blocked d t) (early_in flights_first made.of_day.1) late_ones
        ∙ ((λ i. stands i ++ none_late plan.runways late i) ∙ append-nil (early_in kept aims)) in
        subst (λ (bs : List BlockedFlight). IsPermutation bs (kept_blocked d t plan.blocked)) left whole

-- what was not touched of the first day's plan stands
pub kept_since : (first d : DayRecord) (t : Touched) (plan : Plan) → IsMade first plan → IsSince first t d → AreKept d t plan.runways plan.blocked
kept_since first d t plan made since = search (rules, runway_stands, plan_stands, early_stands)

-- a runway that was not touched has the same plan on both days
pub same_elsewhere : (first d : DayRecord) (t : Touched) (plan next : Plan) → IsMade first plan → IsMade d next → IsSince first t d
    → AreSameElsewhere t plan.runways next.runways
unfolding IsDayPlan
same_elsewhere first d t plan next made next_made since p q i j same h =
    let placing = next_made.of_day.0 in
    let aims = next_made.of_day.1 in
    let day = next_made.of_day.2 in
    let R : RunwayRules → RunwayPlan → Type 0 = λ x p. IsSequenceBy placing x (fixed_in d x.name) (targets_on x.name (targets_in aims)) p in
    let at = partner R (day_rules d) day.made q day.sequences
    (Contains-permutation next.runways day.made q (IsPermutation-sym day.made next.runways day.parts.runways) j) in
    let r = at.0 in
    let named : p.runway ≡ r.name = same ∙ at.1.runway in
    let one = has_sequence d r p (named_stands first d t since plan made r p at.2 i named (ap (is_touched t) (sym named) ∙ h)) in
    let other = has_sequence d r q (record { aims = aims; aimed = day.aimed; sequence = (placing, at.1) }) in
    let own = names_on r.name (taxi_of d.airport d.journal) (values_of d.journal) (records_in d.airport d.journal) (record_names_differ d next_made.sound.names) in
    sequence_one r (fixed_in d r.name) (fixed_in d r.name) (targets_at d r.name) (targets_at d r.name) p q own
    (IsPermutation-refl (fixed_in d r.name)) (IsPermutation-refl (targets_at d r.name)) one other

-- where all was touched, nothing stands
pub none_kept : (d : DayRecord) → AreKept d touched.All [] []
none_kept d = record {
  all = λ r i e. refl;
  right = λ r p i e. cc;
  early = λ aims are. subst (λ (fs : List Flight). IsPermutation (early_in fs aims) []) (sym (none (records_in d.airport d.journal))) (IsPermutation-refl []);
} where
  off : (r : Option (List ℕ)) → option_map_or (λ s. not (is_touched touched.All s)) r false ≡ false
  off o = search rules

  none : (fs : List Flight) → kept_of touched.All fs ≡ []
  none [] = refl
  none (f ∷ fs) = ap (λ b. cond b (f ∷ kept_of touched.All fs) (kept_of touched.All fs)) (off (counted_on f)) ∙ none fs
