-- A planned flight that waits has a slot at the first minute without a reason, or is blocked as its reasons say.
use Rattle.std.proofs.Common.{◌≡◌, ◌⊎◌, ℕ, ◌+◌, ◌<◌, ◌≤◌, true, false, List, ◌++◌, Option, Some, None, is_none, map, [], filter, refl, sym}
use Rattle.std.proofs.Common.{◌∙◌, ap, subst, inl, inr, arith, Bool}
use Rattle.std.proofs.lemmas.{Bool.both_ways, Bool.false≢true, Bool.or_left, Option.same_Some, Map.Views.Contains-from_any}
use Rattle.std.proofs.lemmas.List.Elements.{Contains-append_cases, Contains-append_left, Contains-append_right}
use Rattle.cdm_plan.proofs.{JournalFacts.known-among, PlanningLemmas.blocked_early, PlanningLemmas.targets_of, OnePlanLemmas.partner}
use Rattle.cdm_plan.proofs.ListWords.{All-contains, Contains, Contains-permutation, IsPermutation-sym, contains_all, contains_from_map}
use Rattle.cdm_plan.proofs.ListWords.{contains_kept, contains_map, filter_map, filter_passes, flat_map, option_map, IsDistinct}
use Rattle.cdm_plan.proofs.ListWords.{IsDistinct-IsPermutation, IsPermutation, one_of_key, option_and_then, option_map_or}
use Rattle.cdm_plan.proofs.PlanWords.{AimResult, BlockedFlight, DayRecord, DayValues, Early, IsAim, Placing, Plan, Ready, Flight}
use Rattle.cdm_plan.proofs.PlanWords.{RunwayPlan, RunwayRules, Slot, Target, TaxiTimes, aim_means, aim_of, blocked_in, fixed_on, flight_of}
use Rattle.cdm_plan.proofs.PlanWords.{flights_in, is_known, is_planned, is_same, planned_of, records_in, same_is, same_name}
use Rattle.cdm_plan.proofs.PlanWords.{status_of-record, takeoffs, target_in, taxi_of, values_of, IsSequence, IsSequenceBy, RunwayRow}
use Rattle.cdm_plan.proofs.{PlanWords.{day_rules, rules_of, same_flips, targets_on}, NameLemmas.{day_rules_differ, find_only, find_some}}
use Rattle.cdm_flight.proofs.{JournalLemmas.{aobt_of, atot_of, is_cancelled, planned_says}, Lists.contains_from_given}
use Rattle.cdm_flight.specs.{Journal.exot_of, Order.is_before, Record.key_of}
use Rattle.cdm_flight.specs.declared.{flight.Status.Status, flight.Status.TheVariants.Planned, key.Key.Key}
use Rattle.cdm_runway.specs.declared.load.Taken.{Taken}
use Rattle.cdm_sequence.specs.{Aims.ReachesAt, Aims.is_candidate, Aims.ready_at, Aims.IsTarget, Plan.IsLeast, Plan.taken_before}
use Rattle.cdm_sequence.specs.{Sequence.IsRightlyBlocked, Sequence.planned_slot, declared.rule.Rule.Rule, Slots.is_fixed}
use Rattle.cdm_view.specs.{Reasons.Waiting, Reasons.slots_on, Reasons.is_earlier, Waits.Waits}
use Rattle.cdm_view.proofs.TurnLemmas.{slot_for, earlier_taken, IsPlaced, IsTurn, blocked_for, placed_at}
use Rattle.cdm_view.proofs.ListLemmas.{contains_flat, contains_given, contains_in_flat, option_map_some}
use Rattle.cdm_view.proofs.ReasonLemmas.{and_next, earliest_for, is_candidate_for, none_before, taken_as, Blocked, always}
use Rattle.cdm_view.proofs.WaitingLemmas.{IsMadeOf, fixed_flight, flight_aimed, key_says, made_of, same_flight, told}
use Rattle.cdm_view.proofs.StandingLemmas.{Parts, parts_on, plans_named}
use Rattle.cdm_sequence.specs.declared.rule.Rule.TheVariants as rule

blocked_says : (name : List ℕ) (a : AimResult) (b : BlockedFlight) → blocked_in name a ≡ Some b → (a ≡ Early b.rule) × (b.name ≡ name)
blocked_says name a b h = grind arith

planned_is : (s : Status) → is_planned s ≡ true → s ≡ Planned
planned_is s h = grind arith

module _ (d : DayRecord) (plan : Plan) (f : Flight) (w : Waiting) (is : Waits d plan f w) where
  abbrev times : TaxiTimes
  times = taxi_of d.airport d.journal

  abbrev values : DayValues
  values = values_of d.journal

  abbrev flights : List Flight
  flights = records_in d.airport d.journal

  abbrev made : IsMadeOf d plan f w
  made = made_of d plan f w is.waits

  abbrev parts : Parts d plan
  parts = parts_on d plan is.of_day

  -- what is on a runway
  abbrev targets_at : RunwayRules → List Target
  targets_at r = targets_on r.name (targets_of flights times values)

  abbrev IsOf : Placing → RunwayRules → RunwayPlan → Type 0
  IsOf placing r p = IsSequenceBy placing r (fixed_on r.name flights) (targets_at r) p

  abbrev fixed : List Slot
  fixed = fixed_on w.rules.name flights

  abbrev targets : List Target
  targets = targets_at w.rules

  abbrev early : List BlockedFlight
  early = blocked_early flights times values

  abbrev late : List BlockedFlight
  late = flat_map (λ (p : RunwayPlan). p.blocked) plan.runways

  row_named : Contains d.airport.runways made.row × (same_name made.row.name made.runway ≡ true)
  row_named = find_some (λ (row : RunwayRow). same_name row.name made.runway) d.airport.runways made.row made.found

  -- the rules are those of the flight's runway, which is one of the day's
  pub on_runway : f.runway ≡ Some w.rules.name
  unfolding rules_of
  on_runway =
      let own = sym (same_is made.row.name made.runway row_named.1) in
      made.on ∙ ap Some (own ∙ ap (λ (x : Waiting). x.rules.name) made.same)

  rules_among : Contains (day_rules d) w.rules
  rules_among =
      subst (Contains (day_rules d)) (ap (λ (x : Waiting). x.rules) made.same)
      (contains_map (rules_of d.airport d.journal) d.airport.runways made.row row_named.0)

  -- the runways and their plans have the same names, each its own
  rules_differ : IsDistinct same_name (map (λ r. r.name) (day_rules d))
  rules_differ = day_rules_differ d is.sound.airport.names

  named : IsPermutation (map (λ r. r.name) (day_rules d)) (map (λ p. p.runway) plan.runways)
  named = plans_named d plan is.sound.airport.names is.of_day

  -- each plan is a runway's
  runway_of_plan : (p : RunwayPlan) → Contains plan.runways p
      → (r : RunwayRules) × ((placing : Placing) × IsOf placing r p) × Contains (day_rules d) r
  runway_of_plan p i =
      let back = IsPermutation-sym parts.made plan.runways parts.parts.runways in
      partner (λ r p. IsSequence r (fixed_on r.name flights) (targets_at r) p) (day_rules d) parts.made p
      parts.sequences (Contains-permutation plan.runways parts.made p back i)

  -- the plan of the flight's runway, and its slots
  record IsHere (p : RunwayPlan) : Type 0 where
    among : Contains plan.runways p
    placing : Placing
    sequence : IsOf placing w.rules p
    slots : slots_on plan w.rules.name ≡ p.slots

  plan_here : (p : RunwayPlan) → Contains plan.runways p → p.runway ≡ w.rules.name → IsHere p
  plan_here p i on =
      let runway : RunwayPlan → List ℕ = λ p. p.runway in
      let name : RunwayRules → List ℕ = λ r. r.name in
      let (r, (placing, seq), j) = runway_of_plan p i in
      let same = is_same r.name w.rules.name (sym seq.runway ∙ on) in
      let own = one_of_key same_name same_flips name (day_rules d) r w.rules rules_differ j rules_among same in
      let differ = IsDistinct-IsPermutation same_name same_flips _ _ named rules_differ in
      let test : RunwayPlan → Bool = λ q. same_name q.runway w.rules.name in
      record {
        among = i;
        placing = placing;
        sequence = subst (λ (r : RunwayRules). IsOf placing r p) own seq;
        slots = ap (λ (o : Option RunwayPlan). option_map_or (λ p. p.slots) o [])
            (find_only test plan.runways p i (is_same p.runway w.rules.name on)
            (λ q k h. one_of_key same_name same_flips runway plan.runways q p differ k i
            (is_same q.runway p.runway (same_is q.runway w.rules.name h ∙ sym on))));
      }

  -- there is one
  some_here : (p : RunwayPlan) × IsHere p
  some_here =
      let runway : RunwayPlan → List ℕ = λ p. p.runway in
      let there = contains_map (λ (r : RunwayRules). r.name) (day_rules d) w.rules rules_among in
      let among = Contains-permutation _ (map runway plan.runways) w.rules.name named there in
      let (p, i, on) = contains_from_map runway plan.runways w.rules.name among in
      (p, plan_here p i on)

  aimed : (r : RunwayRules) (t : Target) → Contains (targets_at r) t
      → (g : Flight) × Contains flights g × IsTarget g times values t
  aimed r t i =
      let among = contains_all (λ t. same_name t.runway r.name) (targets_of flights times values) t i in
      flight_aimed times values flights t among

  -- the target of a flight of this name
  target_of : (r : RunwayRules) (t : Target) → Contains (targets_at r) t → t.key.name ≡ f.name
      → IsTarget f times values t
  target_of r t i own =
      let (g, j, aim) = aimed r t i in
      let one = same_flight d f g is.known j (sym (key_says g t.key aim.key).0 ∙ own) in
      subst (λ (g : Flight). IsTarget g times values t) one aim

  -- fixed flights come before it
  fixed_earlier : (s : Slot) → Contains fixed s → is_earlier d made.key s ≡ true
  fixed_earlier s i = or_left (is_fixed s.mark) _ (fixed_flight w.rules.name flights s i).2.fixed

  -- and planned ones by the order of sequence
  planned_earlier : (u : Target) (m : ℕ) → Contains targets u
      → is_earlier d made.key (planned_slot u m) ≡ is_before u.key made.key
  planned_earlier u m i =
      let (g, j, aim) = aimed w.rules u i in
      let said = ap (flight_of d.airport d.journal) (key_says g u.key aim.key).0 ∙ told d g j in
      ap (λ (o : Option Flight). option_map_or (λ k. is_before k made.key) (option_and_then key_of o) false) said
      ∙ ap (λ (o : Option Key). option_map_or (λ k. is_before k made.key) o false) aim.key

  -- the turn of the flight on its runway
  abbrev taken : Placing → Target → List Taken
  taken placing t = taken_before w.rules (takeoffs w.rules fixed) targets placing t

  turn_of : (t : Target) → Contains targets t → t.key.name ≡ f.name
      → (p : RunwayPlan) (here : IsHere p) → IsTurn w t (taken here.placing t)
  turn_of t i own p here =
      let aim = target_of w.rules t i own in
      let key : t.key ≡ made.key = cc made.keyed in
      let exot : t.exot ≡ w.exot = cc (made.on, made.taxi, made.same) in
      let ready : t.ready ≡ ready_at w.flight w.tobt w.values =
      aim.ready ∙ (ap (λ (k : Key). ready_at f k.tobt values) key
      ∙ ap (λ (x : Waiting). ready_at x.flight x.tobt x.values) made.same) in
      let ctot : t.ctot ≡ w.flight.ctot = cc made.same in
      let earlier = is_earlier d made.key in
      let slots : w.earlier ≡ filter earlier p.slots = cc (made.same, made.on, on_runway) in
      let before = earlier_taken w.rules here.placing fixed targets t earlier
      fixed_earlier (λ u m j. planned_earlier u m j ∙ ap (is_before u.key) (sym key)) p.slots here.sequence.slots in
      record {
        tobt = cc made.same;
        exot = exot;
        group = cc made.same;
        some_minute = aim.some_minute;
        minutes = λ m. aim.minutes m ∙ (λ i. is_candidate (made.same i).values.tolerance (ready i + exot i) (ctot i) m);
        same = subst (λ (ss : List Slot). IsPermutation (taken here.placing t) (map (taken_as w.rules) ss))
            (sym slots) before;
      }

  -- A flight that has a slot.

  -- a planned flight has no slot of one that left
  not_fixed : (s : Slot) → Contains fixed s → s.name ≡ f.name → ⊥
  not_fixed s i named =
      let (g, j, left) = fixed_flight w.rules.name flights s i in
      let one = same_flight d f g is.known j (sym left.named ∙ named) in
      false≢true (sym left.left ∙ (ap (λ (g : Flight). is_planned g.status) one ∙ is.planned))

  pub placed : (s : Slot) → Contains (slots_on plan w.rules.name) s → s.name ≡ f.name → IsPlaced w s
  placed s i named =
      let (p, here) = some_here in
      let given = filter_map (slot_for w.rules here.placing) targets in
      let shown = subst (λ (ss : List Slot). Contains ss s) here.slots i in
      let same = IsPermutation-sym (fixed ++ given) p.slots here.sequence.slots in
      elim (Contains-append_cases fixed given s (Contains-permutation p.slots (fixed ++ given) s same shown)) [
        | inl j ↦ absurd (not_fixed s j named)
        | inr j ↦
            let (t, k, e) = contains_from_given (slot_for w.rules here.placing) targets s j in
            let (m, minute, same) = option_map_some (planned_slot t) (here.placing t) s e in
            let turn = turn_of t k (ap (λ (x : Slot). x.name) same ∙ named) p here in
            let before = taken here.placing in
            let is_least = λ (t : Target). IsLeast w.rules (before t) t (here.placing t) in
            let least = All-contains is_least targets t here.sequence.minutes k in
            let first = subst (IsLeast w.rules (before t) t) minute least in
            subst (IsPlaced w) same (placed_at w t (before t) turn m first)
      ]

  -- A flight that is blocked.

  -- when it could take off
  reaches : (P : ℕ → Type 0) → ReachesAt f times values P → P (earliest_for w)
  reaches P h =
      let tobt = (key_says f made.key made.keyed).1 in
      subst (λ (x : Waiting). P (earliest_for x)) made.same (simp (tobt, made.on, made.taxi) at h)

  -- the rule that blocks the flight before the traffic of its runway is asked blocks it as it waits
  early_for : (why : Rule) → IsAim f times values (Early why) → Blocked w why
  early_for rule.Tobt h = cc (key_says f made.key made.keyed).1
  early_for rule.Runway h = cc (on_runway, h.1)
  early_for rule.Exot h = let (r, on, none) = h.1 in cc (made.on, made.taxi)
  early_for rule.Horizon h =
      let late : 2880 ≤ earliest_for w = reaches (λ m. 2880 ≤ m) h in
      record {
        minute = 0;
        within = omega arith;
        before = none_before w 0;
        never = λ m below keeps. let after = keeps rule.Horizon (omega arith) in omega arith;
      }
  early_for rule.Ctot h =
      let none : ℕ → ℕ → Type 0 = λ m k. is_candidate values.tolerance m f.ctot k ≡ false in
      let (reach, all) = reaches (λ m. (m < 2880) × ((k : ℕ) → none m k)) h in
      record {
        minute = earliest_for w;
        within = reach;
        before = and_next w (earliest_for w) rule.Horizon (none_before w (earliest_for w)) (omega arith);
        never = λ k below keeps.
            let candidate = λ (x : Waiting). is_candidate x.values.tolerance (earliest_for w) x.flight.ctot k in
            both_ways (is_candidate_for w k) (sym (ap candidate made.same) ∙ all k) (keeps rule.Ctot (omega arith));
      }
  early_for _ h = absurd h

  early_by : (b : BlockedFlight) → Contains early b → b.name ≡ f.name → Blocked w b.rule
  unfolding blocked_early
  early_by b i named =
      let (g, j, e) = contains_from_given (λ g. blocked_in g.name (aim_of g times values)) (planned_of flights) b i in
      let says = blocked_says g.name (aim_of g times values) b e in
      let known = contains_all (λ g. is_planned g.status) flights g j in
      let one = same_flight d f g is.known known (sym says.1 ∙ named) in
      let aim = subst (IsAim g times values) says.0 (aim_means g times values) in
      early_for b.rule (subst (λ (g : Flight). IsAim g times values (Early b.rule)) one aim)

  abbrev IsBlockedOn : Placing → RunwayRules → BlockedFlight → Type 0
  IsBlockedOn placing r b =
      IsRightlyBlocked r (takeoffs r (fixed_on r.name flights)) (targets_at r) placing b

  here_by : (p : RunwayPlan) → IsHere p → (b : BlockedFlight) → Contains p.blocked b
      → b.name ≡ f.name → Blocked w b.rule
  here_by p here b i named =
      let (t, j, own, blocks) = All-contains (IsBlockedOn here.placing w.rules) p.blocked b here.sequence.rules i in
      blocked_for w t _ (turn_of t j (sym own ∙ named) p here) b.rule blocks

  -- the plan of the runway on which it is blocked is that of its own
  late_by : (b : BlockedFlight) → Contains late b → b.name ≡ f.name → Blocked w b.rule
  late_by b i named =
      let (p, j, k) = contains_flat (λ (p : RunwayPlan). p.blocked) plan.runways b i in
      let (r, (placing, seq), l) = runway_of_plan p j in
      let (t, m, own, blocks) = All-contains (IsBlockedOn placing r) p.blocked b seq.rules k in
      let aim = target_of r t m (sym own ∙ named) in
      let test = λ (t : Target). same_name t.runway r.name in
      let passes = filter_passes test (targets_of flights times values) in
      let on = same_is t.runway r.name (All-contains (λ t. test t ≡ true) (targets_at r) t passes m) in
      let own_runway = same_Some t.runway w.rules.name (sym aim.runway ∙ on_runway) in
      here_by p (plan_here p j (seq.runway ∙ (sym on ∙ own_runway))) b k named

  pub blocked : (b : BlockedFlight) → Contains plan.blocked b → b.name ≡ f.name → Blocked w b.rule
  blocked b i named =
      let whole = IsPermutation-sym (early ++ late) plan.blocked parts.parts.blocked in
      elim (Contains-append_cases early late b (Contains-permutation plan.blocked (early ++ late) b whole i)) [
        | inl j ↦ early_by b j named
        | inr j ↦ late_by b j named
      ]

  -- One of both.

  abbrev HasSlot : Type 0
  HasSlot = (s : Slot) × Contains (slots_on plan w.rules.name) s × (s.name ≡ f.name)

  abbrev IsBlocked : Type 0
  IsBlocked = (b : BlockedFlight) × Contains plan.blocked b × (b.name ≡ f.name)

  -- a planned flight is among those that were made known
  made_known : Contains flights f
  made_known =
      let a = d.journal in
      let told = (status_of-record f.name d.airport a f is.known).0 ∙ ap Some (planned_is f.status is.planned) in
      let says =
      planned_says (is_cancelled a f.name) (atot_of a f.name) (aobt_of a f.name) (exot_of d.airport a f.name)
      (is_known a f.name) told in
      let there = Contains-from_any same_is f.name (flights_in a) (sym (known-among a f.name) ∙ says.3) in
      contains_given (flight_of d.airport a) (flights_in a) f.name f there is.known

  blocked_among : (b : BlockedFlight) → Contains (early ++ late) b → Contains plan.blocked b
  blocked_among b = Contains-permutation (early ++ late) plan.blocked b parts.parts.blocked

  at_target : (p : RunwayPlan) (here : IsHere p) (t : Target) → Contains targets t
      → t.key.name ≡ f.name → (o : Option ℕ) → here.placing t ≡ o → HasSlot ⊎ IsBlocked
  at_target p here t i named (Some m) e =
      let slots = slot_for w.rules here.placing in
      let given = filter_map slots targets in
      let slot = planned_slot t m in
      let there = contains_given slots targets t slot i (ap (option_map (planned_slot t)) e) in
      let among = Contains-append_right fixed given slot there in
      let shown = Contains-permutation (fixed ++ given) p.slots slot here.sequence.slots among in
      inl (slot, subst (λ (ss : List Slot). Contains ss slot) (sym here.slots) shown, named)
  at_target p here t i named None e =
      let name : BlockedFlight → List ℕ = λ b. b.name in
      let key : Target → List ℕ = λ t. t.key.name in
      let left = filter (λ t. is_none (here.placing t)) targets in
      let kept = contains_map key left t (contains_kept (λ t. is_none (here.placing t)) targets t i (ap is_none e)) in
      let among = Contains-permutation (map key left) (map name p.blocked) t.key.name here.sequence.blocked kept in
      let (b, j, own) = contains_from_map name p.blocked t.key.name among in
      let flat = contains_in_flat (λ (p : RunwayPlan). p.blocked) plan.runways p b here.among j in
      inr (b, blocked_among b (Contains-append_right early late b flat), own ∙ named)

  pub either : HasSlot ⊎ IsBlocked
  unfolding targets_of blocked_early
  either = by (aim_of f times values) refl (aim_means f times values)
    where
      planned : Contains (planned_of flights) f
      planned = contains_kept (λ f. is_planned f.status) flights f made_known is.planned

      by : (a : AimResult) → aim_of f times values ≡ a → IsAim f times values a → HasSlot ⊎ IsBlocked
      by (Ready t) e aim =
          let on = same_Some t.runway w.rules.name (sym aim.runway ∙ on_runway) in
          let target : Flight → Option Target = λ f. target_in (aim_of f times values) in
          let given = contains_given target (planned_of flights) f t planned (ap target_in e) in
          let kept = contains_kept (λ t. same_name t.runway w.rules.name) (targets_of flights times values) t given
          (is_same t.runway w.rules.name on) in
          let (p, here) = some_here in
          at_target p here t kept (key_says f t.key aim.key).0 (here.placing t) refl
      by (Early why) e aim =
          let b : BlockedFlight = record { name = f.name; rule = why } in
          let blocked : Flight → Option BlockedFlight = λ f. blocked_in f.name (aim_of f times values) in
          let given = contains_given blocked (planned_of flights) f b planned (ap (blocked_in f.name) e) in
          inr (b, blocked_among b (Contains-append_left early late b given), refl)

  pub not_both : HasSlot → IsBlocked → ⊥
  not_both (s, shown, own) (b, left, named) =
      let slot = placed s shown own in
      let none = slot.free in
      let some = always w b.rule (blocked b left named) s.ttot slot.within in
      cc
