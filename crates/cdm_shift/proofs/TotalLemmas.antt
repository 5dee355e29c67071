-- The delay of all flights on their stands is that of the report.
use Rattle.std.proofs.Common.{◌≡◌, ◌∙◌, ℕ, ◌+◌, ◌++◌, ◌||◌, ◌⊎◌, Bool, true, false, cond, List, [], ◌∷◌, Option, None, Some, arith, ap, inl, inr, filter, length, map, refl}
use Rattle.std.proofs.{Common.{subst, sym}, lemmas.{Bool.false≢true, Grind.common_steps, Option.option_and_then_some}}
use Rattle.std.proofs.lemmas.List.{Concat.length-flat_map, Elements.{All-contains, Contains-append_cases, Contains-append_left, Contains-append_right, filter_passes}}
use Rattle.std.proofs.lemmas.List.{Sorted.{Contains-permutation, IsPermutation-sym, sum_by-IsPermutation}, Sums.{sum_by-append, sum_by-cons}}
use Rattle.std.specs.{List.{cons_option, filter_map, find, sum_by}, Option.{IsSomeAnd, option_and_then, option_map, option_map_or}}
use Rattle.std.specs.Prelude.{Contains, flat_map, if◌then◌else◌, unwrap_or}
use Rattle.cdm_flight.proofs.Lists.{contains_all, contains_from_given, contains_from_map, contains_map, one_of_key, sum_by-zero, sum_map, sum_same}
use Rattle.cdm_flight.specs.{Journal.{flight_of, runway_row, taxi_of, values_of}, Names.same_name}
use Rattle.cdm_flight.specs.Record.{is_planned as on_its_stand}
use Rattle.cdm_flight.specs.declared.{airport.RunwayRow.RunwayRow, flight.Flight.Flight, values.DayValues.DayValues}
use Rattle.cdm_runway.specs.Rules.{RunwayRules}
use Rattle.cdm_sequence.specs.{Aims.{IsAim, IsTarget, TaxiTimes}, Fixed.fixed_slot, Plan.Placing, Sequence.planned_slot, Slots.is_fixed}
use Rattle.cdm_sequence.specs.declared.{aims.AimResult.AimResult, plan.Plan.Plan, plan.RunwayPlan.RunwayPlan, slot.BlockedFlight.BlockedFlight}
use Rattle.cdm_sequence.specs.declared.{slot.Mark.Mark, slot.Slot.Slot, target.Target.Target}
use Rattle.cdm_sequence.specs.declared.slot.Mark.TheVariants as mark
use Rattle.cdm_plan.specs.{Day.{DayRecord, rules_of}, DayPlan.{IsDayPlan, day_rules, records_in}, Planning.{fixed_on, planned_of, target_in, targets_on}, Sound.IsSound}
use Rattle.cdm_plan.proofs.{DayPlanLemmas.{HasSequence, record_name}, NameLemmas.{day_rules_differ, find_only, find_some, one_row}, OnePlanLemmas.partner}
use Rattle.cdm_plan.proofs.{ListWords.IsDistinct-IsPermutation, PlanWords.{aim_means, aim_of, is_same, same_flips, same_is}, PlanningLemmas.targets_of}
use Rattle.cdm_report.specs.Counts.{counts_of}
use Rattle.cdm_row.specs.{Rows.{AreRows, row_of, standing_row, status_by}, declared.row.Row.Row}
use Rattle.cdm_view.specs.{Reasons.{Waiting, is_earlier, slots_on, waiting_of}, Standings.{cancelled, flight_name, is_cancelled, on_runway, standings_of}}
use Rattle.cdm_view.specs.{Waits.Waits, Why.{own_slot, waits_for}, declared.standing.Standing.Standing}
use Rattle.cdm_view.specs.declared.standing.Standing.TheVariants.{OnRunway, Blocked, Cancelled}
use Rattle.cdm_view.proofs.{ListLemmas.{contains_flat, contains_in_flat, option_map_some}, StandingLemmas.{Parts, parts_on, plans_named, standings_apart}}
use Rattle.cdm_view.proofs.WaitingLemmas.{key_says, told}
use Rattle.cdm_shift.specs.{Costs.{costs_of, is_blocked, is_on_stand, on_stand}, Held.{causes_named, causes_of, causes_until}, StartUps.is_planned}

-- Sums.

sum_filter : {X : Type 0} (g : X → ℕ) (p : X → Bool) (xs : List X) → sum_by g (filter p xs) ≡ sum_by (λ x. cond (p x) (g x) 0) xs
sum_filter g p [] = refl
sum_filter g p (x ∷ xs) = grind (arith, common_steps, sum_filter g p xs, sum_by-cons)

sum_given : {X Y : Type 0} (g : Y → ℕ) (h : X → Option Y) (xs : List X) → sum_by g (filter_map h xs) ≡ sum_by (λ x. option_map_or g (h x) 0) xs
sum_given g h [] = refl
sum_given {X} {Y} g h (x ∷ xs) = by (sum_given g h xs) (h x) ∙ sym (sum_by-cons (λ x. option_map_or g (h x) 0) x xs)
  where
    by : sum_by g (filter_map h xs) ≡ sum_by (λ x. option_map_or g (h x) 0) xs → (o : Option Y)
        → sum_by g (cons_option o (filter_map h xs)) ≡ option_map_or g o 0 + sum_by (λ x. option_map_or g (h x) 0) xs
    by rest None = omega (arith, rest)
    by rest (Some y) = sum_by-cons g y (filter_map h xs) ∙ ap (λ n. g y + n) rest

sum_flat : {X Y : Type 0} (g : Y → ℕ) (f : X → List Y) (xs : List X) → sum_by g (flat_map f xs) ≡ sum_by (λ x. sum_by g (f x)) xs
sum_flat g f [] = refl
sum_flat g f (x ∷ xs) =
    sum_by-append g (f x) (flat_map f xs) ∙ ap (λ n. sum_by g (f x) + n) (sum_flat g f xs) ∙ sym (sum_by-cons (λ x. sum_by g (f x)) x xs)

-- A slot is that of a flight that has left its stand, or of one that waits on it.

record IsLeft (g : Flight) (s : Slot) : Type 0 where
  named : s.name ≡ g.name
  undelayed : s.delay ≡ None
  fixed : is_fixed s.mark ≡ true

left_says : (g : Flight) (s : Slot) → fixed_slot g ≡ Some s → IsLeft g s
unfolding fixed_slot
left_says g s e = grind arith

target_says : (g : Flight) (times : TaxiTimes) (values : DayValues) (a : AimResult) (t : Target) → IsAim g times values a → target_in a ≡ Some t
    → IsTarget g times values t
target_says g times values a t is e = grind arith

-- the standing of a runway has one slot
one_slot : (r q : List ℕ) (s t : Slot) → OnRunway r s ≡ OnRunway q t → s ≡ t
one_slot r q s t e = cc

no_slot_blocked : (r : List ℕ) (s : Slot) (b : BlockedFlight) → OnRunway r s ≡ Blocked b → ⊥
no_slot_blocked r s b e = cc

no_slot_cancelled : (r : List ℕ) (s : Slot) (f : Flight) (b : Bool) → (if b then Some (Cancelled f.name) else None) ≡ Some (OnRunway r s) → ⊥
no_slot_cancelled r s f true e = cc
no_slot_cancelled r s f false e = cc

-- whether the Row of a standing is of a flight on its stand
abbrev counted : (Row → ℕ) → Row → ℕ
counted g row = cond (is_on_stand row) (g row) 0

module _ (d : DayRecord) (plan : Plan) (sound : IsSound d) (is : IsDayPlan d plan) where
  abbrev flights : List Flight
  flights = records_in d.airport d.journal

  abbrev times : TaxiTimes
  times = taxi_of d.airport d.journal

  abbrev values : DayValues
  values = values_of d.journal

  abbrev on : List Standing
  on = flat_map on_runway plan.runways

  abbrev blocked : List Standing
  blocked = map Blocked plan.blocked

  abbrev gone : List Standing
  gone = filter_map cancelled flights

  parts : Parts d plan
  parts = parts_on d plan is

  -- two standings of one name are one
  one_standing : (s t : Standing) → Contains (standings_of d plan) s → Contains (standings_of d plan) t → flight_name s ≡ flight_name t → s ≡ t
  one_standing s t i j same =
      one_of_key same_name same_flips flight_name (standings_of d plan) s t (standings_apart d plan sound.airport.names sound.names is) i j
      (is_same (flight_name s) (flight_name t) same)

  slot_stands : (p : RunwayPlan) (s : Slot) → Contains plan.runways p → Contains p.slots s → Contains (standings_of d plan) (OnRunway p.runway s)
  slot_stands p s i j =
      let here = contains_in_flat on_runway plan.runways p (OnRunway p.runway s) i (contains_map (OnRunway p.runway) p.slots s j) in
      Contains-append_left (on ++ blocked) gone (OnRunway p.runway s) (Contains-append_left on blocked (OnRunway p.runway s) here)

  -- each runway's plan is a sequence of one of the day's runways
  sequence_of : (p : RunwayPlan) → Contains plan.runways p → (r : RunwayRules) × HasSequence d r p × Contains (day_rules d) r
  sequence_of p i =
      partner (HasSequence d) (day_rules d) parts.made p parts.sequences
      (Contains-permutation plan.runways parts.made p (IsPermutation-sym parts.made plan.runways parts.parts.runways) i)

  -- a flight on its stand waits until its slot
  record OnStand (f : Flight) (s : Slot) : Type 0 where
    waiting : Waiting
    waits : Waits d plan f waiting
    own : own_slot plan f ≡ Some s
    marked : s.mark ≡ mark.Planned

  record HasLeft (s : Slot) : Type 0 where
    undelayed : s.delay ≡ None
    fixed : is_fixed s.mark ≡ true

  record OfFlight (s : Slot) : Type 0 where
    flight : Flight
    known : flight_of d.airport d.journal s.name ≡ Some flight
    named : flight.name ≡ s.name
    either : OnStand flight s ⊎ HasLeft s

  fixed_of : (r : List ℕ) (s : Slot) → Contains (fixed_on r flights) s → OfFlight s
  unfolding fixed_on
  fixed_of r s i =
      let (g, j, e) = contains_from_given fixed_slot (filter (λ f. option_map_or (λ runway. same_name runway r) f.runway false) flights) s i in
      let left = left_says g s e in
      let among = contains_all (λ f. option_map_or (λ runway. same_name runway r) f.runway false) flights g j in
      record {
        flight = g;
        known = ap (flight_of d.airport d.journal) left.named ∙ told d g among;
        named = sym left.named;
        either = inr (record { undelayed = left.undelayed; fixed = left.fixed });
      }

  -- the row of the airport for a runway of the day
  row_of_runway : (r : RunwayRules) (name : List ℕ) → Contains (day_rules d) r → name ≡ r.name
      → (row : RunwayRow) × (runway_row d.airport name ≡ Some row)
  unfolding rules_of
  row_of_runway r name i same =
      let (row, j, e) = contains_from_map (rules_of d.airport d.journal) d.airport.runways r i in
      let named : row.name ≡ name = ap (λ (x : RunwayRules). x.name) e ∙ sym same in
      let test : RunwayRow → Bool = λ row. same_name row.name name in (
        row,
        find_only test d.airport.runways row j (is_same row.name name named)
            (λ q k h. one_row d.airport.runways sound.airport.names name q row k j h (is_same row.name name named)),
      )

  slots_here : (p : RunwayPlan) (name : List ℕ) → Contains plan.runways p → p.runway ≡ name → slots_on plan name ≡ p.slots
  slots_here p name i same =
      let runway : RunwayPlan → List ℕ = λ p. p.runway in
      let differ = IsDistinct-IsPermutation same_name same_flips _ _ (plans_named d plan sound.airport.names is) (day_rules_differ d sound.airport.names) in
      let test : RunwayPlan → Bool = λ q. same_name q.runway name in
      ap (λ (o : Option RunwayPlan). option_map_or (λ p. p.slots) o [])
      (find_only test plan.runways p i (is_same p.runway name same)
      (λ q k h. one_of_key same_name same_flips runway plan.runways q p differ k i (is_same q.runway p.runway (same_is q.runway name h ∙ sym same))))

  -- and back
  slots_of : (r : List ℕ) (s : Slot) → Contains (slots_on plan r) s → (p : RunwayPlan) × Contains plan.runways p × Contains p.slots s
  slots_of r s i = by (find (λ p. same_name p.runway r) plan.runways) refl i
    where
      by : (o : Option RunwayPlan) → find (λ p. same_name p.runway r) plan.runways ≡ o → Contains (option_map_or (λ p. p.slots) o []) s
          → (p : RunwayPlan) × Contains plan.runways p × Contains p.slots s
      by None e i = absurd (omega (arith, i.1))
      by (Some p) e i = (p, (find_some (λ p. same_name p.runway r) plan.runways p e).0, i)

  own_found : (p : RunwayPlan) (s : Slot) (f : Flight) → Contains plan.runways p → Contains p.slots s → f.runway ≡ Some p.runway → s.name ≡ f.name
      → own_slot plan f ≡ Some s
  own_found p s f i j on named =
      let test : Slot → Bool = λ x. same_name x.name f.name in
      ap (λ (o : Option (List ℕ)). option_and_then (λ r. find test (slots_on plan r)) o) on
      ∙ ap (find test) (slots_here p p.runway i refl)
      ∙ find_only test p.slots s j (is_same s.name f.name named)
      (λ x k h. one_slot p.runway p.runway x s
      (one_standing (OnRunway p.runway x) (OnRunway p.runway s) (slot_stands p x i k) (slot_stands p s i j) (same_is x.name f.name h ∙ sym named)))

  waits_by : (g : Flight) (t : Target) (row : RunwayRow) → IsTarget g times values t → runway_row d.airport t.runway ≡ Some row
      → (w : Waiting) × (waiting_of d plan g ≡ Some w)
  unfolding waiting_of
  waits_by g t row aim found = (
    record {
      flight = g;
      tobt = t.key.tobt;
      exot = t.exot;
      values = values_of d.journal;
      rules = rules_of d.airport d.journal row;
      earlier = filter (is_earlier d t.key) (slots_on plan t.runway);
    },
    rw (aim.key, aim.runway, found, aim.exot) refl,
  )

  planned_of_slot : (p : RunwayPlan) (r : RunwayRules) (placing : Placing) (s : Slot) → Contains plan.runways p → Contains (day_rules d) r → p.runway ≡ r.name
      → Contains p.slots s → Contains (filter_map (λ f. option_map (planned_slot f) (placing f)) (targets_on r.name (targets_of flights times values))) s → OfFlight s
  unfolding targets_of
  planned_of_slot p r placing s i k runway j there =
      let targets = targets_on r.name (targets_of flights times values) in
      let (t, l, e) = contains_from_given (λ f. option_map (planned_slot f) (placing f)) targets s there in
      let (m, minute, same) = option_map_some (planned_slot t) (placing t) s e in
      let test : Target → Bool = λ t. same_name t.runway r.name in
      let here = same_is t.runway r.name (All-contains (λ t. test t ≡ true) targets t (filter_passes test (targets_of flights times values)) l) in
      let among = contains_all test (targets_of flights times values) t l in
      let (g, n, is_aim) = contains_from_given (λ f. target_in (aim_of f times values)) (planned_of flights) t among in
      let aim = target_says g times values (aim_of g times values) t (aim_means g times values) is_aim in
      let planned = All-contains (λ f. on_its_stand f.status ≡ true) (planned_of flights) g (filter_passes (λ f. on_its_stand f.status) flights) n in
      let known = told d g (contains_all (λ f. on_its_stand f.status) flights g n) in
      let named : s.name ≡ g.name = sym (ap (λ (x : Slot). x.name) same) ∙ (key_says g t.key aim.key).0 in
      let (row, found) = row_of_runway r t.runway k here in
      let (w, waiting) = waits_by g t row aim found in
      record {
        flight = g;
        known = ap (flight_of d.airport d.journal) named ∙ known;
        named = sym named;
        either = inl (record {
          waiting = w;
          waits = record { sound = sound; of_day = is; known = known; planned = planned; waits = waiting };
          own = own_found p s g i j (aim.runway ∙ ap Some (here ∙ sym runway)) named;
          marked = sym (ap (λ (x : Slot). x.mark) same);
        });
      }

  of_flight : (p : RunwayPlan) (s : Slot) → Contains plan.runways p → Contains p.slots s → OfFlight s
  of_flight p s i j =
      let (r, (placing, seq), k) = sequence_of p i in
      let fixed = fixed_on r.name flights in
      let given = filter_map (λ f. option_map (planned_slot f) (placing f)) (targets_on r.name (targets_of flights times values)) in
      elim (Contains-append_cases fixed given s (Contains-permutation p.slots (fixed ++ given) s (IsPermutation-sym (fixed ++ given) p.slots seq.slots) j)) [
        | inl l ↦ fixed_of r.name s l
        | inr l ↦ planned_of_slot p r placing s i k seq.runway j l
      ]

  -- What each standing adds.

  abbrev held : Row → ℕ
  held row = length (causes_named d plan row.flight)

  abbrev of_standing : Standing → ℕ
  of_standing s = option_map_or (counted held) (standing_row d s) 0

  abbrev delay_told : Standing → ℕ
  delay_told (OnRunway r s) = unwrap_or s.delay 0
  delay_told (Blocked b) = 0
  delay_told (Cancelled name) = 0

  module _ (so_long : (f : Flight) (w : Waiting) (s : Slot) → Waits d plan f w → own_slot plan f ≡ Some s → IsSomeAnd s.delay (λ delay. length (causes_of d plan f) ≡ delay)) where
    no_causes : (w : Option Waiting) → causes_until w None ≡ []
    no_causes None = refl
    no_causes (Some w) = refl

    some_delay : (n : ℕ) (o : Option ℕ) → IsSomeAnd o (λ delay. n ≡ delay) → n ≡ unwrap_or o 0
    some_delay n None e = absurd e
    some_delay n (Some delay) e = e

    named_causes : (f : Flight) → flight_of d.airport d.journal f.name ≡ Some f → causes_named d plan f.name ≡ causes_of d plan f
    unfolding causes_named
    named_causes f known = ap (λ (o : Option Flight). option_map_or (causes_of d plan) o []) known

    of_slot : (r : List ℕ) (s : Slot) → OfFlight s → of_standing (OnRunway r s) ≡ unwrap_or s.delay 0
    unfolding row_of
    of_slot r s whose = first ∙ second whose.either
      where
        first : of_standing (OnRunway r s) ≡ cond (is_planned (status_by s.mark) || is_blocked (status_by s.mark)) (length (causes_named d plan whose.flight.name)) 0
        first = ap (λ (o : Option Flight). option_map_or (counted held) (option_map (λ f. row_of d f (OnRunway r s)) o) 0) whose.known

        by : (m : Mark) → is_fixed m ≡ true → (n : ℕ) → cond (is_planned (status_by m) || is_blocked (status_by m)) n 0 ≡ 0
        by mark.Planned h n = absurd (false≢true h)
        by mark.OffBlock h n = refl
        by mark.Airborne h n = refl

        second : OnStand whose.flight s ⊎ HasLeft s
            → cond (is_planned (status_by s.mark) || is_blocked (status_by s.mark)) (length (causes_named d plan whose.flight.name)) 0 ≡ unwrap_or s.delay 0
        second (inl stands) =
            ap (λ (m : Mark). cond (is_planned (status_by m) || is_blocked (status_by m)) (length (causes_named d plan whose.flight.name)) 0) stands.marked
            ∙ ap length (named_causes whose.flight (ap (flight_of d.airport d.journal) whose.named ∙ whose.known))
            ∙ some_delay (length (causes_of d plan whose.flight)) s.delay (so_long whose.flight stands.waiting s stands.waits stands.own)
        second (inr left) = by s.mark left.fixed (length (causes_named d plan whose.flight.name)) ∙ sym (ap (λ (o : Option ℕ). unwrap_or o 0) left.undelayed)

    -- a blocked flight has no slot
    none_of_blocked : (b : BlockedFlight) (f : Flight) → Contains (standings_of d plan) (Blocked b) → f.name ≡ b.name → causes_of d plan f ≡ []
    none_of_blocked b f i named = by (own_slot plan f) refl
      where
        slotless : (s : Slot) → own_slot plan f ≡ Some s → ⊥
        slotless s e =
            let test : Slot → Bool = λ x. same_name x.name f.name in
            option_and_then_some (λ r. find test (slots_on plan r)) f.runway s e (λ r at there.
            let found = find_some test (slots_on plan r) s there in
            let (p, j, k) = slots_of r s found.0 in
            no_slot_blocked p.runway s b (one_standing (OnRunway p.runway s) (Blocked b) (slot_stands p s j k) i (same_is s.name f.name found.1 ∙ named)))

        by : (o : Option Slot) → own_slot plan f ≡ o → causes_of d plan f ≡ []
        by None e = ap (causes_until (waits_for d plan f)) e ∙ no_causes (waits_for d plan f)
        by (Some s) e = absurd (slotless s e)

    of_blocked : (b : BlockedFlight) → Contains (standings_of d plan) (Blocked b) → of_standing (Blocked b) ≡ 0
    unfolding row_of
    of_blocked b i = by (flight_of d.airport d.journal b.name) refl
      where
        by : (o : Option Flight) → flight_of d.airport d.journal b.name ≡ o → option_map_or (counted held) (option_map (λ f. row_of d f (Blocked b)) o) 0 ≡ 0
        by None e = refl
        by (Some f) e =
            let named = record_name d.airport d.journal b.name f e in
            ap length (named_causes f (ap (flight_of d.airport d.journal) named ∙ e) ∙ none_of_blocked b f i named)

    of_cancelled : (name : List ℕ) → of_standing (Cancelled name) ≡ 0
    unfolding row_of
    of_cancelled name = by (flight_of d.airport d.journal name)
      where
        by : (o : Option Flight) → option_map_or (counted held) (option_map (λ f. row_of d f (Cancelled name)) o) 0 ≡ 0
        by None = refl
        by (Some f) = refl

    on_its_runway : (r : List ℕ) (s : Slot) → Contains (standings_of d plan) (OnRunway r s) → OfFlight s
    on_its_runway r s i = elim (Contains-append_cases (on ++ blocked) gone (OnRunway r s) i) [
      | inl j ↦ elim (Contains-append_cases on blocked (OnRunway r s) j) [
        | inl k ↦
            let (p, l, m) = contains_flat on_runway plan.runways (OnRunway r s) k in
            let (t, n, e) = contains_from_map (OnRunway p.runway) p.slots (OnRunway r s) m in
            of_flight p s l (subst (λ (x : Slot). Contains p.slots x) (one_slot p.runway r t s e) n)
        | inr k ↦ let (b, l, e) = contains_from_map Blocked plan.blocked (OnRunway r s) k in absurd (no_slot_blocked r s b (sym e))
      ]
      | inr j ↦ let (f, k, e) = contains_from_given cancelled flights (OnRunway r s) j in absurd (no_slot_cancelled r s f (is_cancelled f.status) e)
    ]

    each : (s : Standing) → Contains (standings_of d plan) s → of_standing s ≡ delay_told s
    each (OnRunway r s) i = of_slot r s (on_its_runway r s i)
    each (Blocked b) i = of_blocked b i
    each (Cancelled name) i = of_cancelled name

    -- The sums.

    of_runway : (p : RunwayPlan) → sum_by delay_told (on_runway p) ≡ sum_by (λ delay. delay) (filter_map (λ slot. slot.delay) p.slots)
    of_runway p =
        sum_map delay_told (OnRunway p.runway) p.slots
        ∙ sum_same (λ (s : Slot). unwrap_or s.delay 0) (λ (s : Slot). option_map_or (λ delay. delay) s.delay 0) p.slots (λ s i. by s.delay)
        ∙ sym (sum_given (λ delay. delay) (λ (s : Slot). s.delay) p.slots)
      where
        by : (o : Option ℕ) → unwrap_or o 0 ≡ option_map_or (λ delay. delay) o 0
        by None = refl
        by (Some delay) = refl

    all_on : sum_by delay_told on ≡ (counts_of plan).delay
    unfolding counts_of
    all_on =
        sum_flat delay_told on_runway plan.runways
        ∙ (λ i. sum_by (λ p. of_runway p i) plan.runways)
        ∙ sym (sum_flat (λ delay. delay) (λ (p : RunwayPlan). filter_map (λ slot. slot.delay) p.slots) plan.runways)

    no_blocked : (bs : List BlockedFlight) → sum_by delay_told (map Blocked bs) ≡ 0
    no_blocked bs = sum_map delay_told Blocked bs ∙ sum_by-zero bs

    no_gone : (fs : List Flight) → sum_by delay_told (filter_map cancelled fs) ≡ 0
    no_gone fs = sum_given delay_told cancelled fs ∙ sum_same (λ f. option_map_or delay_told (cancelled f) 0) (λ f. 0) fs (λ f i. by f (is_cancelled f.status)) ∙ sum_by-zero fs
      where
        by : (f : Flight) (b : Bool) → option_map_or delay_told (if b then Some (Cancelled f.name) else None) 0 ≡ 0
        by f true = refl
        by f false = refl

    all_told : sum_by delay_told (standings_of d plan) ≡ (counts_of plan).delay
    all_told =
        sum_by-append delay_told (on ++ blocked) gone
        ∙ ap (λ n. n + sum_by delay_told gone) (sum_by-append delay_told on blocked)
        ∙ omega (arith, all_on, no_blocked plan.blocked, no_gone flights)

    pub total : (rows : List Row) → AreRows d plan rows → (costs_of d plan (on_stand rows)).delay ≡ (counts_of plan).delay
    unfolding costs_of
    total rows are =
        length-flat_map (λ row. causes_named d plan row.flight) (on_stand rows)
        ∙ sum_filter held is_on_stand rows
        ∙ ap (sum_by (counted held)) are.told
        ∙ sum_given (counted held) (standing_row d) are.standings
        ∙ sum_by-IsPermutation of_standing (standings_of d plan) are.standings are.stand.all
        ∙ sum_same of_standing delay_told (standings_of d plan) each
        ∙ all_told
