-- Where the flights of a runway stand in the next day.
use Rattle.std.proofs.Common.{◌≡◌, ℕ, ◌+◌, ◌-◌, ◌<◌, ◌≤◌, ◌++◌, inl, inr, Bool, true, false, cond, List, Option, None, Some, All, IfSome, Contains, refl, sym, ap, ◌∙◌, subst, arith, map, filter, filter_map}
use Rattle.std.proofs.lemmas.List.Elements.{All-contains, filter_passes, Contains-append_cases, Contains-append_left, Contains-append_right}
use Rattle.std.proofs.lemmas.List.Sorted.{Contains-permutation, IsPermutation-sym}
use Rattle.std.specs.Option.{option_and_then, option_map}
use Rattle.std.specs.List.{IsDistinct}
use Rattle.std.specs.Prelude.{is_none}
use Rattle.cdm_flight.proofs.Lists.{contains_all, contains_from_given, contains_from_map, contains_kept, contains_map, if_so}
use Rattle.cdm_flight.specs.declared.flight.Flight.{Flight}
use Rattle.cdm_flight.specs.declared.flight.Status.{Status}
use Rattle.cdm_flight.specs.declared.flight.Status.TheVariants as status
use Rattle.cdm_flight.specs.declared.group.Group.{Group}
use Rattle.cdm_flight.specs.declared.values.DayValues.{DayValues}
use Rattle.cdm_flight.specs.Names.{same_name}
use Rattle.cdm_flight.specs.Record.{is_planned}
use Rattle.cdm_flight.specs.Spacing.{occupancy_of}
use Rattle.cdm_runway.specs.Rules.{RunwayRules}
use Rattle.cdm_sequence.specs.Aims.{TaxiTimes}
use Rattle.cdm_sequence.specs.Fixed.{fixed_slot, slot_by}
use Rattle.cdm_sequence.specs.Plan.{Placing}
use Rattle.cdm_sequence.specs.Sequence.{IsSequenceBy, planned_slot}
use Rattle.cdm_sequence.specs.declared.aims.AimResult.{AimResult}
use Rattle.cdm_sequence.specs.declared.aims.AimResult.TheVariants.{Ready, Early}
use Rattle.cdm_sequence.specs.declared.plan.RunwayPlan.{RunwayPlan}
use Rattle.cdm_sequence.specs.declared.slot.BlockedFlight.{BlockedFlight}
use Rattle.cdm_sequence.specs.declared.slot.Mark.TheVariants as mark
use Rattle.cdm_sequence.specs.declared.slot.Slot.{Slot}
use Rattle.cdm_sequence.specs.declared.target.Target.{Target}
use Rattle.cdm_sequence.proofs.AimLemmas.{aim_of}
use Rattle.cdm_plan.specs.Planning.{fixed_on, target_in, targets_on}
use Rattle.cdm_plan.specs.inner.Aimed.{if_on, is_on}
use Rattle.cdm_plan.proofs.PlanningLemmas.{fixed_at, fixed_on-given, target_at, targets_of, targets_on-given}
use Rattle.cdm_carry.specs.Laws.{next_minute}
use Rattle.cdm_change.specs.NextDay.{next_flight, next_status}
use Rattle.cdm_change.specs.Unnoticed.{next_slot}
use Rattle.cdm_change.proofs.AimLemmas.{FitsNext, IsNextTarget}
use Rattle.cdm_change.proofs.FixedLemmas.{StandsBy}
use Rattle.cdm_change.proofs.ListLemmas.{contains_given}
use Rattle.cdm_change.proofs.PlacingLemmas as placing_of
use Rattle.cdm_change.proofs.RulesLemmas.{IsNextRunway}
use Rattle.cdm_change.proofs.SiftLemmas.{sifted-given}

-- One flight.

-- the slot of a flight that has left in the next day
fixed_by : (f : Flight) (now : ℕ) (x : Status) (slot : Slot) → StandsBy now true f x → slot_by f x ≡ Some slot
    → slot_by (next_flight f) (next_status x) ≡ Some (next_slot slot)
fixed_by f now status.Planned slot stands e = cc e
fixed_by f now status.Cancelled slot stands e = cc e
fixed_by f now (status.OffBlock aobt exot) slot stands e =
    let ttot : aobt - 1440 + exot ≡ (aobt + exot) - 1440 = omega (arith, stands.1) in
    (λ i. Some (record {
      name = f.name;
      tobt = option_map next_minute f.tobt;
      exot = exot;
      ctot = option_map next_minute f.ctot;
      group = f.group;
      tsat = aobt - 1440;
      ttot = ttot i;
      mark = mark.OffBlock;
      delay = None;
    }))
    ∙ ap (option_map next_slot) e
fixed_by f now (status.Airborne aobt atot) slot (inr gone) e = cc (gone.0)
fixed_by f now (status.Airborne aobt atot) slot (inl (stay, left, flown)) e =
    let exot : (atot - 1440) - (aobt - 1440) ≡ atot - aobt = omega (arith, left, flown) in
    (λ i. Some (record {
      name = f.name;
      tobt = option_map next_minute f.tobt;
      exot = exot i;
      ctot = option_map next_minute f.ctot;
      group = f.group;
      tsat = aobt - 1440;
      ttot = atot - 1440;
      mark = mark.Airborne;
      delay = None;
    }))
    ∙ ap (option_map next_slot) e

-- the slot of a planned flight
pub planned_is : (t u : Target) → IsNextTarget t u → (k : ℕ) → planned_slot u k ≡ next_slot (planned_slot t (k + 1440))
planned_is t u same k =
    let tobt : u.key.tobt ≡ t.key.tobt - 1440 = omega (arith, same.tobt) in
    let tsat : k - u.exot ≡ (k + 1440 - t.exot) - 1440 = omega (arith, same.exot) in
    let ttot : k ≡ (k + 1440) - 1440 = omega arith in
    let delay : k - u.exot - u.key.tobt ≡ k + 1440 - t.exot - t.key.tobt = omega (arith, same.exot, same.tobt) in
    λ i. record {
      name = same.name i;
      tobt = Some (tobt i);
      exot = same.exot i;
      ctot = same.ctot i;
      group = same.group i;
      tsat = tsat i;
      ttot = ttot i;
      mark = mark.Planned;
      delay = Some (delay i);
    }

slot_named : (f : Flight) (x : Status) (slot : Slot) → slot_by f x ≡ Some slot → slot.name ≡ f.name
slot_named f status.Planned slot e = cc e
slot_named f status.Cancelled slot e = cc e
slot_named f (status.OffBlock aobt exot) slot e = let name : Some f.name ≡ Some slot.name = ap (option_map (λ (y : Slot). y.name)) e in cc name
slot_named f (status.Airborne aobt atot) slot e = let name : Some f.name ≡ Some slot.name = ap (option_map (λ (y : Slot). y.name)) e in cc name

later_by : (o : Option ℕ) (m : ℕ) → Some m ≡ option_map (λ k. k + 1440) o → (k : ℕ) × (o ≡ Some k) × (m ≡ k + 1440)
later_by None m e = cc e
later_by (Some k) m e = (k, refl, cc e)

none_by : (o : Option ℕ) → None ≡ option_map (λ k. k + 1440) o → o ≡ None
none_by None e = refl
none_by (Some k) e = cc e

-- One runway: its sequence in the day, and in the next one, where no take-off is past the day's horizon.
module _ (r s : RunwayRules) (next : IsNextRunway r s) (short : (group : Group) → occupancy_of r.spacing group ≤ 60) (times : TaxiTimes) (values : DayValues) (n : List ℕ) (fs : List Flight) (own : IsDistinct same_name (map (λ f. f.name) fs)) (stay : List ℕ → Bool)
    (stand : (f : Flight) → Contains fs f → StandsBy values.clock (stay f.name) f f.status) (p q : Placing) where
  abbrev stays_here : Flight → Bool
  stays_here f = stay f.name

  abbrev next_values : DayValues
  next_values = record values { clock = values.clock - 1440 }

  abbrev after : List Flight
  after = map next_flight (filter stays_here fs)

  abbrev targets : List Target
  targets = targets_on n (targets_of fs times values)

  abbrev next_targets : List Target
  next_targets = targets_on n (targets_of after times next_values)

  module _ (on next_on : RunwayPlan) (here : IsSequenceBy p r (fixed_on n fs) targets on) (there : IsSequenceBy q s (fixed_on n after) next_targets next_on)
      (in_time : All (λ (x : Slot). x.ttot < 1440) next_on.slots) where
    abbrev next_slots : List Slot
    next_slots = fixed_on n after ++ filter_map (λ u. option_map (planned_slot u) (q u)) next_targets

    early : (u : Target) → Contains next_targets u → IfSome (q u) (λ m. m < 1440)
    early u i = by (q u) refl
      where
        by : (o : Option ℕ) → q u ≡ o → IfSome o (λ m. m < 1440)
        by None e = tt
        by (Some m) e =
            let given = contains_given (λ u. option_map (planned_slot u) (q u)) next_targets u (planned_slot u m) i (ap (option_map (planned_slot u)) e) in
            let among = Contains-append_right (fixed_on n after) (filter_map (λ u. option_map (planned_slot u) (q u)) next_targets) (planned_slot u m) given in
            All-contains (λ (x : Slot). x.ttot < 1440) next_on.slots (planned_slot u m) in_time
            (Contains-permutation next_slots next_on.slots (planned_slot u m) there.slots among)

    -- the placing of the day, by that of the next day
    placed : (t : Target) → Contains targets t → p t ≡ placing_of.shifted r s next short times values n fs own stays_here stand q t
    placed = placing_of.placed_by r s next short times values n fs own stays_here stand q there.minutes early p here.minutes

    -- The target of a flight, and what it is in the next day.
    abbrev aim : Flight → AimResult
    aim f = aim_of f times values

    abbrev next_aim : Flight → AimResult
    next_aim f = aim_of (next_flight f) times next_values

    planned_fit : (f : Flight) → Contains fs f → is_planned f.status ≡ true → (stay f.name ≡ true) × FitsNext (aim f) (next_aim f)
    planned_fit = placing_of.planned_fit r s next short times values n fs own stays_here stand q

    ready_by : (b : Bool) (a : AimResult) (t : Target) → if_so b (if_on n (target_in a)) ≡ Some t → (b ≡ true) × (a ≡ Ready t) × (same_name t.runway n ≡ true)
    ready_by false a t e = cc e
    ready_by true (Early rule) t e = cc e
    ready_by true (Ready x) t e = by (same_name x.runway n) refl e
      where
        by : (on : Bool) → same_name x.runway n ≡ on → cond on (Some x) None ≡ Some t → (true ≡ true) × (Ready x ≡ Ready t) × (same_name t.runway n ≡ true)
        by false h e = cc e
        by true h e = let same : x ≡ t = cc e in (refl, ap Ready same, subst (λ (y : Target). same_name y.runway n ≡ true) same h)

    -- a target there, of a planned flight
    among_there : (f : Flight) (u : Target) → Contains fs f → is_planned f.status ≡ true → stay f.name ≡ true → next_aim f ≡ Ready u → same_name u.runway n ≡ true
        → Contains next_targets u
    among_there = placing_of.there r s next short times values n fs own stays_here stand q there.minutes early

    -- what a target is in the next day
    record Partner (t : Target) : Type 0 where
      target : Target
      same : IsNextTarget t target
      among : Contains next_targets target
      minute : p t ≡ option_map (λ m. m + 1440) (q target)

    partner_by : (f : Flight) (t : Target) → Contains fs f → Contains targets t → is_planned f.status ≡ true → stay f.name ≡ true → aim f ≡ Ready t
        → same_name t.runway n ≡ true → (b : AimResult) → next_aim f ≡ b → FitsNext (Ready t) b → Partner t
    partner_by f t i j planned stays is on (Early rule) is' fits = absurd fits
    partner_by f t i j planned stays is on (Ready u) is' fits = record {
      target = u;
      same = fits;
      among = among_there f u i planned stays is' (ap (λ (k : List ℕ). same_name k n) fits.runway ∙ on);
      minute =
          placed t j ∙ placing_of.shifted_at r s next short times values n fs own stays_here stand q f t i is
          ∙ ap (λ (x : AimResult). option_map (λ m. m + 1440) (option_and_then q (target_in x))) is';
    }

    partner_of : (t : Target) → Contains targets t → Partner t
    partner_of t j =
        let from = contains_from_given (target_at n times values) fs t (subst (λ (ts : List Target). Contains ts t) (targets_on-given n times values fs) j) in
        let f = from.0 in
        let parts = ready_by (is_planned f.status) (aim f) t from.2 in
        let known = planned_fit f from.1 parts.0 in
        partner_by f t from.1 j parts.0 known.0 parts.1 parts.2 (next_aim f) refl (subst (λ (a : AimResult). FitsNext a (next_aim f)) parts.1 known.1)

    -- Slots.

    fixed_there : (f : Flight) (x : Slot) → Contains fs f → stay x.name ≡ true → fixed_at n f ≡ Some x → Contains (fixed_on n after) (next_slot x)
    unfolding fixed_slot
    fixed_there f x i stays e =
        subst (λ (xs : List Slot). Contains xs (next_slot x)) (sym (fixed_on-given n after ∙ sifted-given stays_here next_flight (fixed_at n) fs))
        (contains_given (λ f. if_so (stays_here f) (fixed_at n (next_flight f))) fs f (next_slot x) i (by (is_on n f) e))
      where
        by : (on : Bool) → if_so on (slot_by f f.status) ≡ Some x → if_so (stay f.name) (if_so on (slot_by (next_flight f) (next_status f.status))) ≡ Some (next_slot x)
        by false e = cc e
        by true e =
            let goes : stay f.name ≡ true = ap stay (sym (slot_named f f.status x e)) ∙ stays in
            let stands : StandsBy values.clock true f f.status = subst (λ (b : Bool). StandsBy values.clock b f f.status) goes (stand f i) in
            ap (λ (b : Bool). if_so b (slot_by (next_flight f) (next_status f.status))) goes ∙ fixed_by f values.clock f.status x stands e

    planned_there : (t : Target) (x : Slot) → Contains targets t → option_map (planned_slot t) (p t) ≡ Some x
        → Contains (filter_map (λ u. option_map (planned_slot u) (q u)) next_targets) (next_slot x)
    planned_there t x j e = by (p t) refl e
      where
        partner : Partner t
        partner = partner_of t j

        by : (o : Option ℕ) → p t ≡ o → option_map (planned_slot t) o ≡ Some x → Contains (filter_map (λ u. option_map (planned_slot u) (q u)) next_targets) (next_slot x)
        by None h e = cc e
        by (Some m) h e =
            let u = partner.target in
            let at = later_by (q u) m (sym h ∙ partner.minute) in
            let slot : planned_slot t m ≡ x = cc e in
            let is : planned_slot u at.0 ≡ next_slot x = planned_is t u partner.same at.0 ∙ ap (λ (k : ℕ). next_slot (planned_slot t k)) (sym at.2) ∙ ap next_slot slot in
            contains_given (λ u. option_map (planned_slot u) (q u)) next_targets u (next_slot x) partner.among (ap (option_map (planned_slot u)) at.1 ∙ ap (λ (y : Slot). Some y) is)

    pub slot_there : (x : Slot) → Contains on.slots x → stay x.name ≡ true → Contains next_on.slots (next_slot x)
    slot_there x i stays =
        let slots = fixed_on n fs ++ filter_map (λ t. option_map (planned_slot t) (p t)) targets in
        let next_planned = filter_map (λ u. option_map (planned_slot u) (q u)) next_targets in
        Contains-permutation next_slots next_on.slots (next_slot x) there.slots
        (elim (Contains-append_cases (fixed_on n fs) (filter_map (λ t. option_map (planned_slot t) (p t)) targets) x
        (Contains-permutation on.slots slots x (IsPermutation-sym slots on.slots here.slots) i)) [
          | inl fixed ↦
              let from = contains_from_given (fixed_at n) fs x (subst (λ (xs : List Slot). Contains xs x) (fixed_on-given n fs) fixed) in
              Contains-append_left (fixed_on n after) next_planned (next_slot x) (fixed_there from.0 x from.1 stays from.2)
          | inr planned ↦
              let from = contains_from_given (λ t. option_map (planned_slot t) (p t)) targets x planned in
              Contains-append_right (fixed_on n after) next_planned (next_slot x) (planned_there from.0 x from.1 from.2)
        ])

    -- Blocked flights.

    abbrev IsBlockedThere : List ℕ → Type 0
    IsBlockedThere f = (b : BlockedFlight) × Contains next_on.blocked b × (b.name ≡ f)

    blocked_at : (u : Target) → Contains next_targets u → q u ≡ None → IsBlockedThere u.key.name
    blocked_at u i none =
        let left = filter (λ u. is_none (q u)) next_targets in
        let names = map (λ (u : Target). u.key.name) left in
        let among = contains_map (λ (u : Target). u.key.name) left u (contains_kept (λ u. is_none (q u)) next_targets u i (ap is_none none)) in
        let from = contains_from_map (λ (b : BlockedFlight). b.name) next_on.blocked u.key.name
        (Contains-permutation names (map (λ (b : BlockedFlight). b.name) next_on.blocked) u.key.name there.blocked among) in
        (from.0, from.1, from.2)

    is_nothing : (o : Option ℕ) → is_none o ≡ true → None ≡ o
    is_nothing None e = refl
    is_nothing (Some m) e = cc e

    pub blocked_there : (b : BlockedFlight) → Contains on.blocked b → IsBlockedThere b.name
    blocked_there b i =
        let left = filter (λ t. is_none (p t)) targets in
        let names = map (λ (t : Target). t.key.name) left in
        let blocked = map (λ (c : BlockedFlight). c.name) on.blocked in
        let among = Contains-permutation blocked names b.name (IsPermutation-sym names blocked here.blocked) (contains_map (λ (c : BlockedFlight). c.name) on.blocked b i) in
        let from = contains_from_map (λ (t : Target). t.key.name) left b.name among in
        let t = from.0 in
        let partner = partner_of t (contains_all (λ t. is_none (p t)) targets t from.1) in
        let none : is_none (p t) ≡ true = All-contains (λ t. is_none (p t) ≡ true) left t (filter_passes (λ t. is_none (p t)) targets) from.1 in
        let found = blocked_at partner.target partner.among (none_by (q partner.target) (is_nothing (p t) none ∙ partner.minute)) in
        (found.0, found.1, found.2 ∙ partner.same.name ∙ from.2)

    -- a flight that had no minute before the horizon's end
    pub early_there : (f : Flight) (u : Target) → Contains fs f → is_planned f.status ≡ true → stay f.name ≡ true → next_aim f ≡ Ready u
        → same_name u.runway n ≡ true → 1440 ≤ u.window.start → IsBlockedThere u.key.name
    early_there f u i planned stays is on far =
        let among = among_there f u i planned stays is on in
        blocked_at u among (placing_of.far_none r s next short times values n fs own stays_here stand q there.minutes early u among far)
