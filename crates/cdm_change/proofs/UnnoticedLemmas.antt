-- Nobody notices a change of day.
use Rattle.std.proofs.Common.{◌≡◌, ℕ, ◌-◌, ◌<◌, ◌≤◌, ◌++◌, inl, inr, Bool, true, false, List, [], ◌∷◌, Option, None, Some, All, IfSome, Contains, refl, sym, ap, ◌∙◌, subst, arith, map, filter}
use Rattle.std.proofs.lemmas.List.Elements.{All-contains, Contains-append_cases, Contains-append_left, Contains-append_right}
use Rattle.std.proofs.lemmas.List.Sorted.{Contains-permutation, IsPermutation-sym}
use Rattle.std.specs.Prelude.{is_some}
use Rattle.std.specs.Option.{option_map}
use Rattle.std.specs.List.{AllZip, IsDistinct, flat_map}
use Rattle.cdm_flight.proofs.Lists.{contains_cases, contains_from_given, contains_head, contains_tail, if_so}
use Rattle.cdm_flight.specs.declared.airport.RunwayRow.{RunwayRow}
use Rattle.cdm_flight.specs.declared.flight.Flight.{Flight}
use Rattle.cdm_flight.specs.declared.group.Group.{Group}
use Rattle.cdm_flight.specs.declared.update.Update.{Update}
use Rattle.cdm_flight.specs.declared.values.DayValues.{DayValues}
use Rattle.cdm_flight.specs.Accepted.{accepted}
use Rattle.cdm_flight.specs.Journal.{AirportRows, runway_row, taxi_of, values_of}
use Rattle.cdm_flight.specs.Names.{same_name}
use Rattle.cdm_flight.specs.Record.{is_planned}
use Rattle.cdm_flight.specs.Spacing.{occupancy_of}
use Rattle.cdm_runway.specs.Rules.{RunwayRules}
use Rattle.cdm_sequence.specs.Aims.{IsAim, TaxiTimes}
use Rattle.cdm_sequence.specs.Plan.{Placing}
use Rattle.cdm_sequence.specs.Sequence.{IsSequenceBy}
use Rattle.cdm_sequence.specs.declared.aims.AimResult.{AimResult}
use Rattle.cdm_sequence.specs.declared.aims.AimResult.TheVariants.{Ready, Early}
use Rattle.cdm_sequence.specs.declared.plan.Plan.{Plan}
use Rattle.cdm_sequence.specs.declared.plan.RunwayPlan.{RunwayPlan}
use Rattle.cdm_sequence.specs.declared.slot.BlockedFlight.{BlockedFlight}
use Rattle.cdm_sequence.specs.declared.slot.Slot.{Slot}
use Rattle.cdm_sequence.specs.declared.target.Target.{Target}
use Rattle.cdm_sequence.proofs.AimLemmas.{aim_means, aim_of}
use Rattle.cdm_sequence.proofs.OrderLemmas.{is_same, same_is}
use Rattle.cdm_plan.specs.Day.{DayRecord, rules_of}
use Rattle.cdm_plan.specs.DayPlan.{IsDayPlan, records_in}
use Rattle.cdm_plan.specs.Planning.{HasParts, IsPlanOf, blocked_in, early_in, fixed_on, planned_of, targets_in, targets_on}
use Rattle.cdm_plan.proofs.DayPlanLemmas.{record_names_differ}
use Rattle.cdm_plan.proofs.NameLemmas.{find_some}
use Rattle.cdm_plan.proofs.PlanningLemmas.{aims_are, blocked_early, early-aims, early-given, early_at, targets-aims, targets_of}
use Rattle.cdm_carry.specs.Carry.{stays}
use Rattle.cdm_change.specs.NextDay.{next_flight, next_journal, next_status}
use Rattle.cdm_flight.specs.declared.flight.Status.{Status}
use Rattle.cdm_flight.specs.declared.flight.Status.TheVariants as status
use Rattle.cdm_sequence.specs.declared.rule.Rule.{Rule}
use Rattle.cdm_change.specs.Unnoticed.{EndsInTime, HasSlot, IsBlocked, IsSameAirport, NobodyNotices, day_after, next_slot}
use Rattle.cdm_files.proofs.FeedDayLemmas.{own_airport}
use Rattle.cdm_change.proofs.AcceptLemmas.{all_accepted}
use Rattle.cdm_change.proofs.AimLemmas.{FitsNext, aims_fit, key_parts}
use Rattle.cdm_change.proofs.DayLemmas.{ClockRises, taxi_of-carried, values_of-next}
use Rattle.cdm_change.proofs.FiledLemmas.{KeepsHours, keeps_hours}
use Rattle.cdm_change.proofs.FixedLemmas.{StandsBy}
use Rattle.cdm_change.proofs.JournalLemmas.{clock_rises, has_its_runway, sound_day, stands}
use Rattle.cdm_change.proofs.ListLemmas.{contains_flat, contains_given, contains_in_flat}
use Rattle.cdm_change.proofs.SiftLemmas.{sifted-given}
use Rattle.cdm_change.proofs.RecordLemmas.{records_in-next}
use Rattle.cdm_change.proofs.RulesLemmas.{IsNextRunway, next_runway}
use Rattle.cdm_change.proofs.StandLemmas.{blocked_there, early_there, slot_there}

-- Runways of the two days, one by one.
module _ (rules next_rules : RunwayRow → RunwayRules) (P Q : RunwayRules → RunwayPlan → Type 0) where
  -- the plans of a runway in both days
  record Pair (rows : List RunwayRow) (made next_made : List RunwayPlan) : Type 0 where
    row : RunwayRow
    here : Contains rows row
    on : RunwayPlan
    among : Contains made on
    is : P (rules row) on
    next_on : RunwayPlan
    next_among : Contains next_made next_on
    next_is : Q (next_rules row) next_on

  abbrev one_further : (row : RunwayRow) (rows : List RunwayRow) (p q : RunwayPlan) (ps qs : List RunwayPlan) → (x : Pair rows ps qs) → Pair (row ∷ rows) (p ∷ ps) (q ∷ qs)
  one_further row rows p q ps qs x = record {
    row = x.row;
    here = contains_tail row rows x.row x.here;
    on = x.on;
    among = contains_tail p ps x.on x.among;
    is = x.is;
    next_on = x.next_on;
    next_among = contains_tail q qs x.next_on x.next_among;
    next_is = x.next_is;
  }

  abbrev first_pair : (row : RunwayRow) (rows : List RunwayRow) (p q : RunwayPlan) (ps qs : List RunwayPlan) → P (rules row) p → Q (next_rules row) q
      → Pair (row ∷ rows) (p ∷ ps) (q ∷ qs)
  first_pair row rows p q ps qs a b = record {
    row = row;
    here = contains_head row rows;
    on = p;
    among = contains_head p ps;
    is = a;
    next_on = q;
    next_among = contains_head q qs;
    next_is = b;
  }

  -- that of a plan
  of_plan : (rows : List RunwayRow) (ps qs : List RunwayPlan) → AllZip P (map rules rows) ps → AllZip Q (map next_rules rows) qs → (p : RunwayPlan) → Contains ps p
      → (x : Pair rows ps qs) × (x.on ≡ p)
  of_plan [] [] [] a b p i = absurd (omega (arith, i.1))
  of_plan (row ∷ rows) (y ∷ ps) (z ∷ qs) a b p i = elim (contains_cases y ps p i) [
    | inl same ↦ (first_pair row rows y z ps qs a.0 b.0, same)
    | inr j ↦ let rest = of_plan rows ps qs a.1 b.1 p j in (one_further row rows y z ps qs rest.0, rest.1)
  ]
  of_plan [] [] (z ∷ qs) a b p i = absurd b
  of_plan (row ∷ rows) (y ∷ ps) [] a b p i = absurd b
  of_plan _ _ _ a b p i = absurd a

  -- that of a runway
  of_row : (rows : List RunwayRow) (ps qs : List RunwayPlan) → AllZip P (map rules rows) ps → AllZip Q (map next_rules rows) qs → (row : RunwayRow) → Contains rows row
      → (x : Pair rows ps qs) × (x.row ≡ row)
  of_row [] [] [] a b row i = absurd (omega (arith, i.1))
  of_row (first ∷ rows) (y ∷ ps) (z ∷ qs) a b row i = elim (contains_cases first rows row i) [
    | inl same ↦ (first_pair first rows y z ps qs a.0 b.0, same)
    | inr j ↦ let rest = of_row rows ps qs a.1 b.1 row j in (one_further first rows y z ps qs rest.0, rest.1)
  ]
  of_row [] [] (z ∷ qs) a b row i = absurd b
  of_row (first ∷ rows) (y ∷ ps) [] a b row i = absurd b
  of_row _ _ _ a b row i = absurd a

-- A plan's parts, by what its flights could have.
record Parts (fs : List Flight) (times : TaxiTimes) (values : DayValues) (rs : List RunwayRules) (plan : Plan) : Type 0 where
  placing : Placing
  made : List RunwayPlan
  sequences : AllZip (λ r p. IsSequenceBy placing r (fixed_on r.name fs) (targets_on r.name (targets_of fs times values)) p) rs made
  parts : HasParts (blocked_early fs times values) made plan

parts_of : (fs : List Flight) (times : TaxiTimes) (values : DayValues) (rs : List RunwayRules) (plan : Plan) → IsPlanOf fs times values rs plan → Parts fs times values rs plan
parts_of fs times values rs plan (placing, aims, e) =
    let are = aims_are times values (planned_of fs) aims e.aimed in
    record {
      placing = placing;
      made = e.made;
      sequences = subst (λ (ts : List Target). AllZip (λ r p. IsSequenceBy placing r (fixed_on r.name fs) (targets_on r.name ts) p) rs e.made)
          (sym (ap targets_in are) ∙ targets-aims times values fs) e.sequences;
      parts = subst (λ (bs : List BlockedFlight). HasParts bs e.made plan) (sym (ap (early_in fs) are) ∙ early-aims times values fs) e.parts;
    }

-- A planned flight stays, with its times in the next day.
planned_stands : (now : ℕ) (stay : Bool) (f : Flight) (x : Status) → StandsBy now stay f x → is_planned x ≡ true
    → (stay ≡ true) × IfSome f.tobt (λ m. 1440 ≤ m) × IfSome f.ctot (λ m. 1440 ≤ m)
planned_stands now stay f status.Planned stand e = stand
planned_stands now stay f (status.OffBlock aobt exot) stand e = cc e
planned_stands now stay f (status.Airborne aobt atot) stand e = cc e
planned_stands now stay f status.Cancelled stand e = cc e

early_by : (planned : Bool) (name : List ℕ) (a : AimResult) (b : BlockedFlight) → if_so planned (blocked_in name a) ≡ Some b
    → (planned ≡ true) × ((rule : Rule) × (a ≡ Early rule)) × (b.name ≡ name)
early_by false name a b e = cc e
early_by true name (Ready t) b e = cc e
early_by true name (Early rule) b e = let same : Some name ≡ Some b.name = ap (option_map (λ (x : BlockedFlight). x.name)) e in (refl, (rule, refl), cc same)

planned_next : (x : Status) → is_planned (next_status x) ≡ is_planned x
planned_next status.Planned = refl
planned_next (status.OffBlock aobt exot) = refl
planned_next (status.Airborne aobt atot) = refl
planned_next status.Cancelled = refl

-- Two days, by their flights and their runways.
module _ (times : TaxiTimes) (values : DayValues) (fs : List Flight) (own : IsDistinct same_name (map (λ f. f.name) fs))
    (stay : List ℕ → Bool) (stand : (f : Flight) → Contains fs f → StandsBy values.clock (stay f.name) f f.status) (rows : List RunwayRow)
    (rules next_rules : RunwayRow → RunwayRules) (follow : (row : RunwayRow) → Contains rows row → IsNextRunway (rules row) (next_rules row))
    (short : (row : RunwayRow) → Contains rows row → (group : Group) → occupancy_of (rules row).spacing group ≤ 60)
    (has_own : (f : Flight) → Contains fs f → (r : List ℕ) → f.runway ≡ Some r → (row : RunwayRow) × Contains rows row × ((rules row).name ≡ r)) where
  abbrev next_values : DayValues
  next_values = record values { clock = values.clock - 1440 }

  abbrev after : List Flight
  after = map next_flight (filter (λ f. stay f.name) fs)

  module _ (plan next : Plan) (x : Parts fs times values (map rules rows) plan) (y : Parts after times next_values (map next_rules rows) next) (in_time : EndsInTime next) where
    abbrev IsHere : RunwayRules → RunwayPlan → Type 0
    IsHere r p = IsSequenceBy x.placing r (fixed_on r.name fs) (targets_on r.name (targets_of fs times values)) p

    abbrev IsThere : RunwayRules → RunwayPlan → Type 0
    IsThere r p = IsSequenceBy y.placing r (fixed_on r.name after) (targets_on r.name (targets_of after times next_values)) p

    abbrev APair : Type 0
    APair = Pair rules next_rules IsHere IsThere rows x.made y.made

    module _ (pair : APair) where
      abbrev n : List ℕ
      n = (rules pair.row).name

      there : IsSequenceBy y.placing (next_rules pair.row) (fixed_on n after) (targets_on n (targets_of after times next_values)) pair.next_on
      there =
          subst (λ (k : List ℕ). IsSequenceBy y.placing (next_rules pair.row) (fixed_on k after) (targets_on k (targets_of after times next_values)) pair.next_on)
          (follow pair.row pair.here).name pair.next_is

      among_next : Contains next.runways pair.next_on
      among_next = Contains-permutation y.made next.runways pair.next_on y.parts.runways pair.next_among

      soon : All (λ (s : Slot). s.ttot < 1440) pair.next_on.slots
      soon = All-contains (λ (p : RunwayPlan). All (λ (s : Slot). s.ttot < 1440) p.slots) next.runways pair.next_on in_time among_next

      slot_goes : (s : Slot) → Contains pair.on.slots s → stay s.name ≡ true → HasSlot next pair.on.runway (next_slot s)
      slot_goes s i stays = record {
        on = pair.next_on;
        among = among_next;
        runway = pair.next_is.runway ∙ (follow pair.row pair.here).name ∙ sym pair.is.runway;
        slot =
            slot_there (rules pair.row) (next_rules pair.row) (follow pair.row pair.here) (short pair.row pair.here) times values n fs own stay stand
            x.placing y.placing pair.on pair.next_on pair.is there soon s i stays;
      }

      all_next : (b : BlockedFlight) → Contains pair.next_on.blocked b → Contains next.blocked b
      all_next b i =
          Contains-permutation (blocked_early after times next_values ++ flat_map (λ p. p.blocked) next.runways) next.blocked b y.parts.blocked
          (Contains-append_right (blocked_early after times next_values) (flat_map (λ p. p.blocked) next.runways) b
          (contains_in_flat (λ (p : RunwayPlan). p.blocked) next.runways pair.next_on b among_next i))

      blocked_goes : (b : BlockedFlight) → Contains pair.on.blocked b → IsBlocked next b.name
      blocked_goes b i =
          let found = blocked_there (rules pair.row) (next_rules pair.row) (follow pair.row pair.here) (short pair.row pair.here) times values n fs own stay stand
          x.placing y.placing pair.on pair.next_on pair.is there soon b i in
          (found.0, all_next found.0 found.1, found.2)

      early_goes : (f : Flight) (u : Target) → Contains fs f → is_planned f.status ≡ true → stay f.name ≡ true → aim_of (next_flight f) times next_values ≡ Ready u
          → same_name u.runway n ≡ true → 1440 ≤ u.window.start → IsBlocked next u.key.name
      early_goes f u i planned stays is on far =
          let found = early_there (rules pair.row) (next_rules pair.row) (follow pair.row pair.here) (short pair.row pair.here) times values n fs own stay stand
          x.placing y.placing pair.on pair.next_on pair.is there soon f u i planned stays is on far in
          (found.0, all_next found.0 found.1, found.2)

    -- Slots.

    slots_go : (r : List ℕ) (s : Slot) → stay s.name ≡ true → HasSlot plan r s → HasSlot next r (next_slot s)
    slots_go r s stays has =
        let made = Contains-permutation plan.runways x.made has.on (IsPermutation-sym x.made plan.runways x.parts.runways) has.among in
        let found = of_plan rules next_rules IsHere IsThere rows x.made y.made x.sequences y.sequences has.on made in
        subst (λ (k : List ℕ). HasSlot next k (next_slot s)) (ap (λ (p : RunwayPlan). p.runway) found.1 ∙ has.runway)
        (slot_goes found.0 s (subst (λ (p : RunwayPlan). Contains p.slots s) (sym found.1) has.slot) stays)

    -- Blocked flights.

    next_early : (f : Flight) (rule : Rule) → Contains fs f → is_planned f.status ≡ true → stay f.name ≡ true → aim_of (next_flight f) times next_values ≡ Early rule
        → IsBlocked next f.name
    next_early f rule i planned stays is =
        let b : BlockedFlight = record { name = f.name; rule = rule } in
        let given = contains_given (λ f. if_so (stay f.name) (early_at times next_values (next_flight f))) fs f b i
        (λ j. if_so (stays j) (if_so ((planned_next f.status ∙ planned) j) (blocked_in f.name (is j)))) in
        let early : Contains (blocked_early after times next_values) b =
        subst (λ (bs : List BlockedFlight). Contains bs b)
        (sym (early-given times next_values after ∙ sifted-given (λ (f : Flight). stay f.name) next_flight (early_at times next_values) fs)) given in (
          b,
          Contains-permutation (blocked_early after times next_values ++ flat_map (λ p. p.blocked) next.runways) next.blocked b y.parts.blocked
              (Contains-append_left (blocked_early after times next_values) (flat_map (λ p. p.blocked) next.runways) b early),
          refl,
        )

    early_by_aim : (f : Flight) → Contains fs f → is_planned f.status ≡ true → stay f.name ≡ true → (rule : Rule) → (a : AimResult)
        → aim_of (next_flight f) times next_values ≡ a → FitsNext (Early rule) a → IsBlocked next f.name
    early_by_aim f i planned stays rule (Early other) is fits = next_early f other i planned stays is
    early_by_aim f i planned stays rule (Ready u) is fits =
        let target : IsAim (next_flight f) times next_values (Ready u) = subst (IsAim (next_flight f) times next_values) is (aim_means (next_flight f) times next_values) in
        let name = (key_parts f.priority f.name (next_flight f).tobt u.key target.key).2 in
        let row = has_own f i u.runway target.runway in
        let found = of_row rules next_rules IsHere IsThere rows x.made y.made x.sequences y.sequences row.0 row.1 in
        let named : (rules found.0.row).name ≡ u.runway = ap (λ (w : RunwayRow). (rules w).name) found.1 ∙ row.2 in
        subst (IsBlocked next) name (early_goes found.0 f u i planned stays is (is_same u.runway (rules found.0.row).name (sym named)) fits)

    blocked_go : (f : List ℕ) → IsBlocked plan f → IsBlocked next f
    blocked_go f (b, i, name) =
        let early = blocked_early fs times values in
        let others = flat_map (λ (p : RunwayPlan). p.blocked) plan.runways in
        subst (IsBlocked next) name
        (elim (Contains-append_cases early others b (Contains-permutation plan.blocked (early ++ others) b (IsPermutation-sym (early ++ others) plan.blocked x.parts.blocked) i)) [
          | inl at ↦
              let from = contains_from_given (early_at times values) fs b (subst (λ (bs : List BlockedFlight). Contains bs b) (early-given times values fs) at) in
              let g = from.0 in
              let parts = early_by (is_planned g.status) g.name (aim_of g times values) b from.2 in
              let known = planned_stands values.clock (stay g.name) g g.status (stand g from.1) parts.0 in
              let fits : FitsNext (aim_of g times values) (aim_of (next_flight g) times next_values) = aims_fit g times values known.1 known.2 in
              subst (IsBlocked next) (sym parts.2)
              (early_by_aim g from.1 parts.0 known.0 parts.1.0 (aim_of (next_flight g) times next_values) refl
              (subst (λ (a : AimResult). FitsNext a (aim_of (next_flight g) times next_values)) parts.1.1 fits))
          | inr at ↦
              let from = contains_flat (λ (p : RunwayPlan). p.blocked) plan.runways b at in
              let made = Contains-permutation plan.runways x.made from.0 (IsPermutation-sym x.made plan.runways x.parts.runways) from.1 in
              let found = of_plan rules next_rules IsHere IsThere rows x.made y.made x.sequences y.sequences from.0 made in
              blocked_goes found.0 b (subst (λ (p : RunwayPlan). Contains p.blocked b) (sym found.1) from.2)
        ])

-- A runway that the airport has is one of its rows.
row_by : (g : AirportRows) (r : List ℕ) (o : Option RunwayRow) → runway_row g r ≡ o → is_some o ≡ true → (row : RunwayRow) × Contains g.runways row × (row.name ≡ r)
row_by g r None e h = cc h
row_by g r (Some row) e h =
    let found = find_some (λ (x : RunwayRow). same_name x.name r) g.runways row e in
    (row, found.0, same_is row.name r found.1)

-- What the next day's plan is of, by what the day's is of.
next_plan_of : (g h : AirportRows) → IsSameAirport g h → (a : List Update) → ClockRises a → (next : Plan) → IsDayPlan (record { airport = h; journal = next_journal a }) next
    → IsPlanOf (map next_flight (filter (λ f. stays a f.name) (records_in g a))) (taxi_of g a) (record (values_of a) { clock = (values_of a).clock - 1440 })
    (map (rules_of h (next_journal a)) g.runways) next
unfolding IsDayPlan
next_plan_of g h same a rises next is =
    let taxi : taxi_of h (next_journal a) ≡ taxi_of g a = λ i place r. taxi_of-carried g h same.taxi a a place r i in
    let flights = records_in-next g h same.taxi a in
    let values = values_of-next a rises in
    let runways : map (rules_of h (next_journal a)) h.runways ≡ map (rules_of h (next_journal a)) g.runways = ap (map (rules_of h (next_journal a))) same.runways in
    subst (λ (rs : List RunwayRules). IsPlanOf (map next_flight (filter (λ f. stays a f.name) (records_in g a))) (taxi_of g a) (record (values_of a) { clock = (values_of a).clock - 1440 }) rs next) runways
    (subst (λ (vs : DayValues). IsPlanOf (map next_flight (filter (λ f. stays a f.name) (records_in g a))) (taxi_of g a) vs (map (rules_of h (next_journal a)) h.runways) next) values
    (subst (λ (ts : TaxiTimes). IsPlanOf (map next_flight (filter (λ f. stays a f.name) (records_in g a))) ts (values_of (next_journal a)) (map (rules_of h (next_journal a)) h.runways) next) taxi
    (subst (λ (fs : List Flight). IsPlanOf fs (taxi_of h (next_journal a)) (values_of (next_journal a)) (map (rules_of h (next_journal a)) h.runways) next) flights is)))

plan_is_of : (d : DayRecord) (plan : Plan) → IsDayPlan d plan
    → IsPlanOf (records_in d.airport d.journal) (taxi_of d.airport d.journal) (values_of d.journal) (map (rules_of d.airport d.journal) d.airport.runways) plan
unfolding IsDayPlan
plan_is_of d plan is = is

rules_spacing : (g : AirportRows) (a : List Update) (row : RunwayRow) (group : Group) → occupancy_of row.spacing group ≤ 60 → occupancy_of (rules_of g a row).spacing group ≤ 60
unfolding rules_of
rules_spacing g a row group h = h

rules_name : (g : AirportRows) (a : List Update) (row : RunwayRow) → (rules_of g a row).name ≡ row.name
unfolding rules_of
rules_name g a row = refl

-- Each flight that stays has in the next day's plan the slot that it had, or is blocked there as it was.
pub nobody_notices : NobodyNotices
nobody_notices text g h records plan next filed same may of_day of_carried in_time =
    let airport = own_airport text g filed in
    let hours = keeps_hours text g filed in
    let of_next : IsDayPlan (record { airport = h; journal = next_journal (accepted g [] records) }) next =
    subst (λ (us : List Update). IsDayPlan (record { airport = h; journal = us }) next) (all_accepted g h records hours same).journal of_carried in
    let a = accepted g [] records in
    let fs = records_in g a in
    let times = taxi_of g a in
    let values = values_of a in
    let own = record_names_differ (day_after g records) (sound_day g records airport).names in
    let stand : (f : Flight) → Contains fs f → StandsBy values.clock (stays a f.name) f f.status = stands g records airport may in
    let follow : (row : RunwayRow) → Contains g.runways row → IsNextRunway (rules_of g a row) (rules_of h (next_journal a) row) =
    λ row i. next_runway g h same.runways a row (All-contains KeepsHours g.runways row hours i).cells in
    let short : (row : RunwayRow) → Contains g.runways row → (group : Group) → occupancy_of (rules_of g a row).spacing group ≤ 60 =
    λ row i group. rules_spacing g a row group ((All-contains KeepsHours g.runways row hours i).spacing group) in
    let has_own : (f : Flight) → Contains fs f → (r : List ℕ) → f.runway ≡ Some r → (row : RunwayRow) × Contains g.runways row × ((rules_of g a row).name ≡ r) =
    λ f i r e.
    let found = row_by g r (runway_row g r) refl (has_its_runway g records airport may f i r e) in
    (found.0, found.1, rules_name g a found.0 ∙ found.2) in
    let x = parts_of fs times values (map (rules_of g a) g.runways) plan (plan_is_of (day_after g records) plan of_day) in
    let y = parts_of (map next_flight (filter (λ f. stays a f.name) fs)) times (record values { clock = values.clock - 1440 }) (map (rules_of h (next_journal a)) g.runways) next
    (next_plan_of g h same a (clock_rises g records) next of_next) in
    record {
      slots = slots_go times values fs own (stays a) stand g.runways (rules_of g a) (rules_of h (next_journal a)) follow short has_own plan next x y in_time;
      blocked = λ f stay. blocked_go times values fs own (stays a) stand g.runways (rules_of g a) (rules_of h (next_journal a)) follow short has_own plan next x y in_time f;
    }
