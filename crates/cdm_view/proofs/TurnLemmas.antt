-- A flight's turn: what the slots before it take, its earliest minute, and what blocks its target.
use Rattle.std.proofs.Common.{◌≡◌, ℕ, Bool, true, false, List, [], ◌∷◌, ◌++◌, filter, map, Option, Some, None, refl, sym, ◌∙◌, ap, subst}
use Rattle.std.proofs.Common.{suc, ◌+◌, ◌<◌, ◌≤◌, arith}
use Rattle.std.proofs.lemmas.{List.Elements.filter-append, Bool.Decides.nat_tests, Bool.both_ways, Grind.common_steps}
use Rattle.std.specs.Option.{IsSome, IsSomeAnd}
use Rattle.cdm_plan.proofs.ListWords.{Contains, IsPermutation, IsPermutation-map, filter_map, map-append, filter_map-filter}
use Rattle.cdm_plan.proofs.ListWords.{filter_map_same, if_so, option_map, All-permutation, IsPermutation-sym, sum_by-IsPermutation}
use Rattle.cdm_plan.proofs.{PlanningLemmas.filter-filter_map, PlanWords.{if_passes, Placing, RunwayRules, Slot, Target, takeoffs}}
use Rattle.cdm_flight.{proofs.Lists.IsPermutation-filter, specs.Order.is_before, specs.declared.group.Group.Group}
use Rattle.cdm_runway.specs.{declared.load.Taken.Taken, Room.{held_in_cell, is_closed, meets, taken_by, IsEarliest, IsFree, IsSpaced}}
use Rattle.cdm_sequence.specs.{Plan.taken_before, Plan.taken_of, Sequence.planned_slot, Sequence.Blocks, declared.rule.Rule.Rule}
use Rattle.cdm_view.proofs.ListLemmas.{filter_all, option_map_some}
use Rattle.cdm_view.proofs.ReasonLemmas.{taken_as, IsSpacedFor, KeepsBefore, and_next, candidate_keeps, candidate_within, free_keeps}
use Rattle.cdm_view.proofs.ReasonLemmas.{is_candidate_for, none_when, some_unless, taken_for, Blocked}
use Rattle.cdm_view.specs.{Reasons.Waiting, Reasons.reason_at, Waits.place_of}
use Rattle.cdm_time.specs.Windows.{window_has}
use Rattle.cdm_sequence.specs.declared.rule.Rule.TheVariants as rule

-- what passes a test of what elements give is given by those that pass another
filter_given : {X Y : Type 0} (q : Y → Bool) (p : X → Bool) (h : X → Option Y) (xs : List X)
    → ((x : X) (y : Y) → Contains xs x → h x ≡ Some y → q y ≡ p x) → filter q (filter_map h xs) ≡ filter_map h (filter p xs)
filter_given {X} {Y} q p h xs same =
    filter-filter_map q h xs
    ∙ (filter_map_same (λ x. if_passes q (h x)) (λ x. if_so (p x) (h x)) xs (λ x i. by x i (h x) refl (p x) refl)
    ∙ sym (filter_map-filter h p xs))
  where
    by : (x : X) → Contains xs x → (o : Option Y) → h x ≡ o → (b : Bool) → p x ≡ b → if_passes q o ≡ if_so b o
    by x i o e b k = grind (arith, same x)

module _ (r : RunwayRules) (p : Placing) where
  -- the slot of a flight at its minute
  abbrev pub slot_for : Target → Option Slot
  slot_for f = option_map (planned_slot f) (p f)

  -- slots take what their flights take
  slots_take : (fs : List Target) → map (taken_as r) (filter_map slot_for fs) ≡ filter_map (taken_of r p) fs
  slots_take [] = refl
  slots_take (f ∷ fs) = let rest = slots_take fs in grind arith

  module _ (fixed : List Slot) (targets : List Target) (t : Target) (earlier : Slot → Bool)
      (all_fixed : (s : Slot) → Contains fixed s → earlier s ≡ true)
      (in_order : (f : Target) (m : ℕ) → Contains targets f → earlier (planned_slot f m) ≡ is_before f.key t.key) where
    same_order : (f : Target) (s : Slot) → Contains targets f → slot_for f ≡ Some s
        → earlier s ≡ is_before f.key t.key
    same_order f s i e =
        let (m, minute, same) = option_map_some (planned_slot f) (p f) s e in
        ap earlier (sym same) ∙ in_order f m i

    earlier_take : map (taken_as r) (filter earlier (fixed ++ filter_map slot_for targets)) ≡ taken_before r (takeoffs r fixed) targets p t
    earlier_take =
        let before : Target → Bool = λ f. is_before f.key t.key in
        rw (filter-append earlier fixed (filter_map slot_for targets), filter_all earlier fixed all_fixed)
        (rw (filter_given earlier before slot_for targets same_order, map-append (taken_as r) fixed _)
        (ap (λ ts. takeoffs r fixed ++ ts) (slots_take (filter before targets))))

    -- in whatever order the slots stand
    pub earlier_taken : (slots : List Slot) → IsPermutation (fixed ++ filter_map slot_for targets) slots
        → IsPermutation (taken_before r (takeoffs r fixed) targets p t) (map (taken_as r) (filter earlier slots))
    earlier_taken slots same = grind (arith, common_steps, filter_map, slot_for, taken_as, earlier_take, IsPermutation-map, IsPermutation-filter)

-- what is known of a flight's slot
pub record IsPlaced (w : Waiting) (s : Slot) : Type 0 where
  pub within : s.ttot < 2880
  pub delayed : IsSomeAnd s.delay (λ delay. s.ttot ≡ w.tobt + w.exot + delay)
  pub held : (m : ℕ) → m < s.ttot → IsSome (reason_at w m)
  pub free : reason_at w s.ttot ≡ None

-- the target is that of the flight that waits, and this is taken when its turn comes
pub record IsTurn (w : Waiting) (t : Target) (taken : List Taken) : Type 0 where
  pub tobt : t.key.tobt ≡ w.tobt
  pub exot : t.exot ≡ w.exot
  pub group : t.group ≡ w.flight.group
  pub some_minute : t.window.start < t.window.end
  pub minutes : (m : ℕ) → window_has t.window.start t.window.end m ≡ is_candidate_for w m
  pub same : IsPermutation taken (taken_for w)

module _ (w : Waiting) (t : Target) (taken : List Taken) (turn : IsTurn w t taken) where
  within : (k : ℕ) → is_candidate_for w k ≡ true → (t.window.start ≤ k) × (k < t.window.end)
  within k h = grind (arith, nat_tests, turn.minutes k)

  candidate : (k : ℕ) → t.window.start ≤ k → k < t.window.end → is_candidate_for w k ≡ true
  candidate k after before = grind (arith, nat_tests, turn.minutes k)

  -- how full a cell is and whom the flight meets doesn't depend on the order of what is taken
  held_is : (k : ℕ) → held_in_cell w.rules.cell (taken_for w) k ≡ held_in_cell w.rules.cell taken k
  held_is k = grind (arith, common_steps, sum_by-IsPermutation, taken_for)

  spaced_for : (k : ℕ) → IsSpaced w.rules taken t.group k → IsSpacedFor w k
  spaced_for k spaced =
      subst (λ (g : Group). IsSpaced w.rules (taken_for w) g k) turn.group
      (All-permutation (λ u. meets (taken_by w.rules t.group k) u ≡ false) taken (taken_for w) turn.same spaced)

  spaced_back : (k : ℕ) → IsSpacedFor w k → IsSpaced w.rules taken t.group k
  spaced_back k spaced =
      subst (λ (g : Group). IsSpaced w.rules taken g k) (sym turn.group)
      (All-permutation (λ u. meets (taken_by w.rules w.flight.group k) u ≡ false) (taken_for w) taken
      (IsPermutation-sym taken (taken_for w) turn.same) spaced)

  -- the rule that blocks the target blocks the flight that waits
  blocked_at : (why : Rule) → 4 < place_of why → (k : ℕ) → is_candidate_for w k ≡ true → KeepsBefore w k (place_of why)
      → ((m : ℕ) → t.window.start ≤ m → m < t.window.end → KeepsBefore w m (suc (place_of why)) → ⊥) → Blocked w why
  blocked_at why late k h before never = record {
    minute = k;
    within = (candidate_within w k h).1;
    before = before;
    never = λ m below keeps. let on = within m (keeps rule.Ctot (omega arith)) in never m on.0 on.1 keeps;
  }

  pub blocked_for : (why : Rule) → Blocks w.rules taken t why → Blocked w why
  blocked_for rule.Closure h =
      let some = turn.some_minute in
      let first = candidate t.window.start (omega arith) some in
      blocked_at rule.Closure (omega arith) t.window.start first (candidate_keeps w t.window.start first)
      (λ m after before keeps. both_ways (is_closed w.rules m) (keeps rule.Closure (omega arith)) (h m after before))
  blocked_for rule.Spacing h =
      let (k, after, before, is_open) = h.some_open in
      let first = candidate k after before in
      blocked_at rule.Spacing (omega arith) k first (and_next w k rule.Closure (candidate_keeps w k first) is_open)
      (λ m after before keeps.
      h.met m after before (keeps rule.Closure (omega arith)) (spaced_back m (keeps rule.Spacing (omega arith))))
  blocked_for rule.Rate h =
      let (k, after, before, is_open, spaced) = h.some_spaced in
      let first = candidate k after before in
      blocked_at rule.Rate (omega arith) k first
      (and_next w k rule.Spacing (and_next w k rule.Closure (candidate_keeps w k first) is_open) (spaced_for k spaced))
      (λ m after before keeps.
      let apart = spaced_back m (keeps rule.Spacing (omega arith)) in
      let full = h.full m after before (keeps rule.Closure (omega arith)) apart in
      let held = held_is m in
      let room = keeps rule.Rate (omega arith) in
      omega arith)
  blocked_for _ h = absurd h

  -- the target's slot is at the first minute without a reason
  pub placed_at : (m : ℕ) → IsEarliest w.rules taken t.group t.window.start t.window.end m → IsPlaced w (planned_slot t m)
  placed_at m first =
      let at_first = candidate m first.after first.before in
      let reach = candidate_within w m at_first in
      let tobt = turn.tobt in
      let exot = turn.exot in
      let held = held_is m in
      let room = first.free.has_room in
      record {
        within = reach.1;
        delayed = omega arith;
        held = λ k before. some_unless w k (omega arith) (λ keeps.
            let on = within k (keeps rule.Ctot) in
            let free : IsFree w.rules taken t.group k = record {
              is_open = keeps rule.Closure;
              is_spaced = spaced_back k (keeps rule.Spacing);
              has_room = let held = held_is k in let room = keeps rule.Rate in omega arith;
            } in
            let least = first.least k on.0 on.1 free in
            omega arith);
        free = none_when w m reach.1
            (free_keeps w m at_first first.free.is_open (spaced_for m first.free.is_spaced) (omega arith));
      }
