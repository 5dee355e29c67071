-- A day has one plan.
use Rattle.std.proofs.Common.{◌≡◌, ℕ, List, ◌∷◌, ◌++◌, refl, sym, ◌∙◌, ap, subst, inl, inr, map, arith, rules, []}
use Rattle.cdm_plan.proofs.ListWords.{AllZip, Contains, IsDistinct, flat_map, IsPermutation, map-append, All-permutation}
use Rattle.cdm_plan.proofs.ListWords.{IsPermutation-append_comm, IsPermutation-map, IsPermutation-refl, IsPermutation-trans}
use Rattle.cdm_plan.proofs.ListWords.{IsPermutation-append_left, IsPermutation-append_right, append_assoc, IsDistinct-IsPermutation}
use Rattle.cdm_plan.proofs.ListWords.{contains_head, contains_tail, contains_cases, distinct_filter, distinct_right}
use Rattle.cdm_plan.proofs.PlanWords.{DayValues, same_name, Flight, RunwayRules, TaxiTimes, IsSequence, IsSequenceBy, Plan, RunwayPlan}
use Rattle.cdm_plan.proofs.PlanWords.{Target, AimResult, BlockedFlight, Placing, same_flips, runway_names, DayRecord, flights_in, IsDayPlan}
use Rattle.cdm_plan.proofs.PlanWords.{day_rules, records_in, values_of, taxi_of, AreAims, HasParts, IsPlanOf, early_in, fixed_on}
use Rattle.cdm_plan.proofs.{PlanWords.{planned_of, targets_in, targets_on}, DayPlanLemmas.record_names_differ}
use Rattle.cdm_plan.proofs.{NameLemmas.{by_name, day_rules_differ}, PartLemmas.runways_make}
use Rattle.cdm_plan.proofs.PlanningLemmas.{AllZip-weaker, aims_are, blocked_early, early-aims, made_named, names_on, once, Shows}
use Rattle.cdm_plan.proofs.PlanningLemmas.{shows_made, stands_in, targets-aims, targets_of}
use Rattle.cdm_sequence.proofs.OneLemmas.{sequence_one}

-- Lists by name.

-- lists of two parts each, put together, are the first parts and the second ones
pub flat_map-parts : {X Y : Type 0} (f g : X → List Y) (xs : List X) → IsPermutation (flat_map (λ x. f x ++ g x) xs) (flat_map f xs ++ flat_map g xs)
flat_map-parts f g [] = IsPermutation-refl []
flat_map-parts f g (x ∷ xs) =
    let fs = flat_map f xs in
    let gs = flat_map g xs in
    let crossed = rw (append_assoc (g x) fs gs, append_assoc fs (g x) gs) at (IsPermutation-append_left gs _ _ (IsPermutation-append_comm (g x) fs)) in
    IsPermutation-trans _ _ _ (IsPermutation-append_right (f x ++ g x) _ _ (flat_map-parts f g xs))
    (rw (append_assoc (f x) (g x) (fs ++ gs), append_assoc (f x) fs (g x ++ gs)) (IsPermutation-append_right (f x) _ _ crossed))

-- the names of lists put together
names_of_lists : {X Y : Type 0} (f : X → List Y) (name : Y → List ℕ) (xs : List X) → flat_map (λ x. map name (f x)) xs ≡ map name (flat_map f xs)
names_of_lists f name [] = refl
names_of_lists f name (x ∷ xs) = ap (λ (ns : List (List ℕ)). map name (f x) ++ ns) (names_of_lists f name xs) ∙ sym (map-append name (f x) (flat_map f xs))

-- an element goes with one of the other list
pub partner : {X Y : Type 0} (R : X → Y → Type 0) (xs : List X) (ys : List Y) (y : Y) → AllZip R xs ys → Contains ys y → (x : X) × R x y × Contains xs x
partner R [] [] y all i = absurd (omega (arith, i.1))
partner {X} {Y} R (u ∷ xs) (v ∷ ys) y all i = elim (contains_cases v ys y i) [
  | inl e ↦ (u, subst (λ (z : Y). R u z) e all.0, contains_head u xs)
  | inr j ↦ let w = partner R xs ys y all.1 j in (w.0, w.1, contains_tail u xs w.0 w.2)
]
partner R _ _ y all i = absurd all

-- Plans.

module _ (times : TaxiTimes) (values : DayValues) (fs : List Flight) (own : IsDistinct same_name (map (λ f. f.name) fs)) where
  abbrev targets_here : List ℕ → List Target
  targets_here r = targets_on r (targets_of fs times values)

  abbrev IsSequenced : RunwayRules → RunwayPlan → Type 0
  IsSequenced r p = IsSequence r (fixed_on r.name fs) (targets_here r.name) p

  abbrev IsSequencedBy : Placing → RunwayRules → RunwayPlan → Type 0
  IsSequencedBy placing r p = IsSequenceBy placing r (fixed_on r.name fs) (targets_here r.name) p

  -- the plans of the runways are determined
  made_one : (rs : List RunwayRules) (xs ys : List RunwayPlan) → AllZip IsSequenced rs xs → AllZip IsSequenced rs ys → xs ≡ ys
  made_one [] [] [] a b = refl
  made_one (r ∷ rs) (x ∷ xs) (y ∷ ys) a b = search (rules, sequence_one, names_on, IsPermutation-refl, made_one rs xs ys a.1 b.1)
  made_one [] [] (y ∷ ys) a b = absurd b
  made_one (r ∷ rs) (x ∷ xs) [] a b = absurd b
  made_one _ _ _ a b = absurd a

  module _ (placing : Placing) (rs : List RunwayRules) (rs_own : IsDistinct same_name (map (λ r. r.name) rs)) (made : List RunwayPlan)
      (all : AllZip (IsSequencedBy placing) rs made) where
    each_made : AllZip IsSequenced rs made
    each_made = AllZip-weaker (IsSequencedBy placing) IsSequenced (λ r p h. (placing, h)) rs made all

    -- the plans of the runways have names of their own
    made_own : IsDistinct same_name (map (λ p. p.runway) made)
    made_own = rw (made_named (λ r. fixed_on r fs) targets_here rs made each_made) rs_own

    -- and so have all blocked flights
    blocked_own : (ps : List RunwayPlan) → IsPermutation made ps
        → IsDistinct same_name (map (λ b. b.name) (blocked_early fs times values ++ flat_map (λ p. p.blocked) ps))
    blocked_own ps same =
        let name : BlockedFlight → List ℕ = λ b. b.name in
        let runway : RunwayPlan → List ℕ = λ p. p.runway in
        let slots : RunwayPlan → List (List ℕ) = λ p. map (λ x. x.name) p.slots in
        let blocked : RunwayPlan → List (List ℕ) = λ p. map name p.blocked in
        let early = map name (blocked_early fs times values) in
        let apart = IsDistinct-IsPermutation same_name same_flips (map runway made) (map runway ps) (IsPermutation-map runway made ps same) made_own in
        let all = once times values fs ps apart (All-permutation (Shows times values fs) made ps same (shows_made times values fs rs made each_made)) in
        let front = IsPermutation-append_left early _ _ (flat_map-parts slots blocked ps) in
        let back = IsPermutation-append_right (flat_map slots ps) _ _ (IsPermutation-append_comm (flat_map blocked ps) early) in
        let parts = IsPermutation-trans _ _ _ (IsPermutation-trans _ _ _ all front) (rw (append_assoc (flat_map slots ps) (flat_map blocked ps) early) back) in
        let apart = IsDistinct-IsPermutation same_name same_flips _ _ parts
        (distinct_filter same_name (λ (f : Flight). f.name) (stands_in times values fs ps) fs own) in
        let flights : RunwayPlan → List BlockedFlight = λ p. p.blocked in
        rw (map-append name (blocked_early fs times values) (flat_map flights ps), ← names_of_lists flights name ps)
        (distinct_right same_name (flat_map slots ps) (early ++ flat_map blocked ps) apart)

  -- a plan has parts
  record Parts (rs : List RunwayRules) (plan : Plan) : Type 0 where
    clock : plan.clock ≡ values.clock
    placing : Placing
    made : List RunwayPlan
    all : AllZip (IsSequencedBy placing) rs made
    parts : HasParts (blocked_early fs times values) made plan

  parts_of : (rs : List RunwayRules) (plan : Plan) → IsPlanOf fs times values rs plan → Parts rs plan
  parts_of rs plan (placing, aims, e) =
      let are = aims_are times values (planned_of fs) aims e.aimed in
      record {
        clock = e.clock;
        placing = placing;
        made = e.made;
        all = subst (λ (ts : List Target). AllZip (λ r p. IsSequenceBy placing r (fixed_on r.name fs) (targets_on r.name ts) p) rs e.made)
            (sym (ap targets_in are) ∙ targets-aims times values fs) e.sequences;
        parts = rw (← early-aims times values fs, are) e.parts;
      }

  -- there is one plan
  pub one_plan : (rs : List RunwayRules) → IsDistinct same_name (map (λ r. r.name) rs) → (p q : Plan) → IsPlanOf fs times values rs p
      → IsPlanOf fs times values rs q → p ≡ q
  one_plan rs rs_own p q x y =
      let a = parts_of rs p x in
      let b = parts_of rs q y in
      let equal : b.made ≡ a.made = made_one rs b.made a.made (each_made b.placing rs rs_own b.made b.all) (each_made a.placing rs rs_own a.made a.all) in
      let other : IsPermutation a.made q.runways = rw equal at b.parts.runways in
      let clock : p.clock ≡ q.clock = a.clock ∙ sym b.clock in
      let runways : p.runways ≡ q.runways =
      by_name (λ (p : RunwayPlan). p.runway) a.made p.runways q.runways (made_own a.placing rs rs_own a.made a.all)
      a.parts.runways other a.parts.runway_order b.parts.runway_order in
      let left = blocked_early fs times values ++ flat_map (λ p. p.blocked) p.runways in
      let others : IsPermutation left q.blocked =
      subst (λ (ps : List RunwayPlan). IsPermutation (blocked_early fs times values ++ flat_map (λ p. p.blocked) ps) q.blocked)
      (sym runways) b.parts.blocked in
      let blocked : p.blocked ≡ q.blocked =
      by_name (λ (b : BlockedFlight). b.name) left p.blocked q.blocked
      (blocked_own a.placing rs rs_own a.made a.all p.runways a.parts.runways) a.parts.blocked others a.parts.blocked_order b.parts.blocked_order in
      λ i. record { clock = clock i; runways = runways i; blocked = blocked i }

-- Days.

pub one_day_plan : (d : DayRecord) (p q : Plan) → IsDistinct same_name (runway_names d.airport) → IsDistinct same_name (flights_in d.journal)
    → IsDayPlan d p → IsDayPlan d q → p ≡ q
unfolding IsDayPlan
one_day_plan d p q runways flights a b = search (rules, one_plan, record_names_differ, day_rules_differ)

-- plans of the runways make the day's
pub day_made : (d : DayRecord) (aims : List AimResult) (made : List RunwayPlan) (plan : Plan) → IsDistinct same_name (runway_names d.airport)
    → AreAims (records_in d.airport d.journal) (taxi_of d.airport d.journal) (values_of d.journal) aims
    → AllZip (λ r p. IsSequence r (fixed_on r.name (records_in d.airport d.journal)) (targets_on r.name (targets_in aims)) p) (day_rules d) made
    → plan.clock ≡ (values_of d.journal).clock → HasParts (early_in (records_in d.airport d.journal) aims) made plan → IsDayPlan d plan
unfolding IsDayPlan
day_made d aims made plan own are all clock parts = search (rules, runways_make, day_rules_differ)
