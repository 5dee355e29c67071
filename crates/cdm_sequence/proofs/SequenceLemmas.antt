-- What decisions that were made one after another show is the runway's sequence.
use Rattle.cdm_sequence.proofs.Words.{common_steps, ◌≡◌, ℕ, ◌+◌, ◌≤◌, Bool, true, false, cond, List, ◌∷◌, ◌++◌, Option, [], sym, ◌∙◌, ap}
use Rattle.cdm_sequence.proofs.Words.{subst, refl, arith, inl, inr, filter, map, length, get_or, append_assoc, rules, filter_map, AllPairs}
use Rattle.cdm_sequence.proofs.Words.{Contains, IsDistinct, IsPermutation, IsSortedByKey, IsSorted, option_and_then, option_map}
use Rattle.cdm_sequence.proofs.Words.{option_to_list, nat_list_eq_equiv, append-nil, All-contains, Contains-get_or, All-permutation}
use Rattle.cdm_sequence.proofs.Words.{length_permutation, IsPermutation-sym, IsPermutation-map, IsDistinct-IsPermutation}
use Rattle.cdm_sequence.proofs.Words.{apart_from_distinct, name_cmp, same_name, key_cmp, is_before, contains_cases, contains_from_map}
use Rattle.cdm_sequence.proofs.Words.{contains_head, contains_tail, All-given, filter_map_same, distinct_right, RunwayRules, taken_by}
use Rattle.cdm_sequence.proofs.{Words.{Gives, Taken}, OneLemmas.reordered}
use Rattle.cdm_sequence.{proofs.OrderLemmas.{before_itself, before_or_after, keys_weak, not_back, same_flips}, specs.Fixed.takeoffs}
use Rattle.cdm_sequence.specs.Plan.{Placing, taken_before, taken_of, IsLeast}
use Rattle.cdm_sequence.specs.{Sequence.{planned_slot, flight_names, Blocks, IsRightlyBlocked, IsSequence}, inner.Shown.names_left}
use Rattle.cdm_sequence.specs.{inner.Turns.{placed_at, taken_in, blocked_from, IsDecided, AreDecided}, Slots.slot_cmp}
use Rattle.cdm_sequence.specs.{declared.plan.RunwayPlan.RunwayPlan, declared.slot.Slot.Slot, declared.target.Target.Target, Words.rule_for}
use Rattle.cdm_sequence.specs.declared.{decision.Decision.Decision, slot.BlockedFlight.BlockedFlight}
use Rattle.std.proofs.{Common.{suc, IfSome, Result, Ok, Err, length-append}, lemmas.List.Elements.filter_map-append}
use Rattle.std.proofs.lemmas.{List.Sorted.{sorted_far, IsPermutation-refl}, Map.Views.lookup-from_Contains, Simd.map-map}
use Rattle.std.specs.Map.{lookup}
use Rattle.cdm_flight.proofs.Lists.{contains_map, filter_map-map, filter_map_cons, distinct_by}
use Rattle.cdm_runway.specs.declared.load.Blocked.{Blocked}

abbrev pub targets_of : List Decision → List Target
targets_of ds = map (λ d. d.target) ds

abbrev pub minutes_of : RunwayRules → List Decision → List Taken
minutes_of r ds = filter_map (taken_in r) ds

abbrev pub slots_given : List Decision → List Slot
slots_given ds = filter_map (λ d. option_map (planned_slot d.target) (placed_at d.outcome)) ds

abbrev pub blocked_given : List Decision → List BlockedFlight
blocked_given ds = filter_map (λ d. blocked_from d.target d.outcome) ds

-- One after another.

pub at_most_one : (o : Option Taken) → length (option_to_list o) ≤ 1
at_most_one o = search rules

-- one more decision at the end
pub decided_push : (r : RunwayRules) (taken : List Taken) (ds : List Decision) (d : Decision) → AreDecided r taken ds → IsDecided r (taken ++ minutes_of r ds) d
    → AreDecided r taken (ds ++ d ∷ [])
decided_push r taken [] d a h = (subst (λ (xs : List Taken). IsDecided r xs d) (append-nil taken) h, tt)
decided_push r taken (e ∷ ds) d a h =
    let now : List Taken = option_to_list (taken_in r e) in
    let same = ap (λ (xs : List Taken). taken ++ xs) (filter_map_cons (taken_in r) e ds)
    ∙ sym (append_assoc taken now (minutes_of r ds)) in
    (a.0, decided_push r (taken ++ now) ds d a.1 (subst (λ (xs : List Taken). IsDecided r xs d) same h))

pub minutes_push : (r : RunwayRules) (ds : List Decision) (d : Decision) → minutes_of r (ds ++ d ∷ []) ≡ minutes_of r ds ++ option_to_list (taken_in r d)
minutes_push r ds d = search (rules, filter_map-append, filter_map_cons, append-nil)

-- as many slots and blocked flights as decisions
given_lengths : (ds : List Decision) → length (slots_given ds) + length (blocked_given ds) ≡ length ds
given_lengths [] = refl
given_lengths (d ∷ ds) = search (rules, given_lengths ds)

-- so as many as flights
pub as_many : (fixed : List Slot) (ds : List Decision) (ss : List Slot) (bs : List BlockedFlight) → IsPermutation (fixed ++ slots_given ds) ss
    → IsPermutation (blocked_given ds) bs → length ss + length bs ≡ length fixed + length ds
as_many fixed ds ss bs slots blocked = search (rules, length_permutation, length-append, given_lengths)

-- Each in its turn.

filter_none : {X : Type 0} (p : X → Bool) (xs : List X) → ((x : X) → Contains xs x → p x ≡ false) → filter p xs ≡ []
filter_none p [] none = refl
filter_none {X} p (x ∷ xs) none = grind (arith, common_steps, filter_none p xs (λ y i. none y (contains_tail x xs y i)))

-- each comes before those after it
abbrev Rise : List Target → Type 0
Rise fs = AllPairs (λ f g. is_before f.key g.key ≡ true) fs

-- the placing has what was decided
abbrev Agrees : Placing → List Decision → Type 0
Agrees p ds = (d : Decision) → Contains ds d → p d.target ≡ placed_at d.outcome

-- sorted targets with names of their own rise
rise_from_sorted : (fs : List Target) → IsSortedByKey (λ t. t.key) key_cmp fs → IsDistinct (λ f g. same_name f.key.name g.key.name) fs → Rise fs
unfolding is_before
rise_from_sorted fs up own = λ i j d l u.
    before_or_after (get_or fs i d).key (get_or fs j d).key (sorted_far (λ (x y : Target). is_before x.key y.key) keys_weak fs up i j d (omega arith) u)
    (apart_from_distinct (λ f g. same_name f.key.name g.key.name) fs i j d own l u)

-- each decision, by what the flights before it take
decided_each : (r : RunwayRules) (p : Placing) (taken : List Taken) (ds : List Decision) → AreDecided r taken ds → Rise (targets_of ds) → Agrees p ds
    → (d : Decision) → Contains ds d → IsDecided r (taken_before r taken (targets_of ds) p d.target) d
decided_each r p taken [] a up agree d i = absurd (omega (arith, i.1))
decided_each r p taken (e ∷ ds) a up agree d i =
    let f = e.target in
    let fs = targets_of ds in
    let after : (g : Target) → Contains fs g → is_before f.key g.key ≡ true = λ g j.
    All-contains (λ g. is_before f.key g.key ≡ true) fs g (λ k x l. up 0 (suc k) x (omega arith) (omega arith)) j in
    let earlier : Decision → Target → Bool = λ d g. is_before g.key d.target.key in
    let front : (d : Decision) (b : Bool) → is_before f.key d.target.key ≡ b
    → filter (earlier d) (f ∷ fs) ≡ cond b (f ∷ filter (earlier d) fs) (filter (earlier d) fs) = λ d b e.
    ap (λ b. cond b (f ∷ filter (earlier d) fs) (filter (earlier d) fs)) e in
    elim (contains_cases e ds d i) [
      | inl same ↦
          let none = front e false (before_itself f.key) ∙ filter_none (earlier e) fs (λ g j. not_back f.key g.key (after g j)) in
          let first : taken_before r taken (f ∷ fs) p f ≡ taken = ap (λ (gs : List Target). taken ++ filter_map (taken_of r p) gs) none ∙ append-nil taken in
          subst (λ (d : Decision). IsDecided r (taken_before r taken (f ∷ fs) p d.target) d) same (subst (λ (xs : List Taken). IsDecided r xs e) (sym first) a.0)
      | inr j ↦
          let now = option_to_list (taken_in r e) in
          let gs = filter (earlier d) fs in
          let next : taken_before r taken (f ∷ fs) p d.target ≡ taken_before r (taken ++ now) fs p d.target =
          ap (λ (gs : List Target). taken ++ filter_map (taken_of r p) gs) (front d true (after d.target (contains_map (λ (d : Decision). d.target) ds d j)))
          ∙ ap (λ (xs : List Taken). taken ++ xs)
          (filter_map_cons (taken_of r p) f gs
          ∙ ap (λ (o : Option ℕ). option_to_list (option_map (taken_by r f.group) o) ++ filter_map (taken_of r p) gs) (agree e (contains_head e ds)))
          ∙ sym (append_assoc taken now (filter_map (taken_of r p) gs)) in
          subst (λ (xs : List Taken). IsDecided r xs d) (sym next)
          (decided_each r p (taken ++ now) ds a.1 (λ k l x u v. up (suc k) (suc l) x (omega arith) (omega arith))
          (λ x k. agree x (contains_tail e ds x k)) d j)
    ]

least_from_gives : (r : RunwayRules) (xs : List Taken) (f : Target) (o : Result ℕ Blocked) → Gives r xs f.group f.window.start f.window.end o
    → IsLeast r xs f (placed_at o)
least_from_gives r xs f o e = search rules

blocks_from_gives : (r : RunwayRules) (xs : List Taken) (f : Target) (reason : Blocked) → Gives r xs f.group f.window.start f.window.end (Err reason)
    → Blocks r xs f (rule_for reason)
blocks_from_gives r xs f reason e = search rules

-- What is shown.

-- a placing that has what was decided leaves the flights that are blocked
names_shown : (p : Placing) (ds : List Decision) → Agrees p ds → names_left p (targets_of ds) ≡ map (λ b. b.name) (blocked_given ds)
names_shown p [] agree = refl
names_shown p (d ∷ ds) agree = grind (arith, common_steps, names_shown p ds (λ e i. agree e (contains_tail d ds e i)))

-- the decisions of all targets, made in the order of sequence, and what is shown of them
pub record IsMade (r : RunwayRules) (fixed : List Slot) (targets : List Target) (ds : List Decision) (plan : RunwayPlan) : Type 0 where
  pub names : IsDistinct same_name (flight_names fixed targets)
  pub same : IsPermutation targets (targets_of ds)
  pub sorted : IsSortedByKey (λ (t : Target). t.key) key_cmp (targets_of ds)
  pub decided : AreDecided r (takeoffs r fixed) ds
  pub runway : plan.runway ≡ r.name
  pub slots : IsPermutation (fixed ++ slots_given ds) plan.slots
  pub slot_order : IsSorted slot_cmp plan.slots
  pub blocked : IsPermutation (blocked_given ds) plan.blocked
  pub blocked_order : IsSortedByKey (λ b. b.name) name_cmp plan.blocked

-- so they show the runway's sequence
pub sequence_made : (r : RunwayRules) (fixed : List Slot) (targets : List Target) (ds : List Decision) (plan : RunwayPlan)
    → IsMade r fixed targets ds plan → IsSequence r fixed targets plan
sequence_made r fixed targets ds plan made =
    let us = targets_of ds in
    let xs = takeoffs r fixed in
    let key : Target → List ℕ = λ f. f.key.name in
    let entry : Decision → List ℕ × Option ℕ = λ d. (d.target.key.name, placed_at d.outcome) in
    let p : Placing = λ f. option_and_then (λ o. o) (lookup (same_name f.key.name) (map entry ds)) in
    let own : IsDistinct same_name (map key us) = IsDistinct-IsPermutation same_name same_flips (map key targets) (map key us)
    (IsPermutation-map key targets us made.same)
    (distinct_right same_name (map (λ (x : Slot). x.name) fixed) (map key targets) made.names) in
    let named = map-map key (λ (d : Decision). d.target) ds ∙ sym (map-map (λ (e : List ℕ × Option ℕ). e.0) entry ds) in
    let agree : Agrees p ds = λ d i.
    ap (option_and_then (λ o. o)) (lookup-from_Contains nat_list_eq_equiv d.target.key.name (placed_at d.outcome) (map entry ds)
    (subst (IsDistinct same_name) named own) (contains_map entry ds d i)) in
    let up : Rise us = rise_from_sorted us made.sorted (distinct_by same_name key us own) in
    let each = decided_each r p xs ds made.decided up agree in
    let P : Target → Type 0 = λ f. IsLeast r (taken_before r xs us p f) f (p f) in
    let least : (d : Decision) → Contains ds d → P d.target = λ d i.
    subst (IsLeast r (taken_before r xs us p d.target) d.target) (sym (agree d i))
    (least_from_gives r (taken_before r xs us p d.target) d.target d.outcome (each d i)) in
    let blocked : (d : Decision) → Contains ds d → IfSome (blocked_from d.target d.outcome) (IsRightlyBlocked r xs us p) = λ d i.
    let go : (o : Result ℕ Blocked) → Gives r (taken_before r xs us p d.target) d.target.group d.target.window.start d.target.window.end o
    → IfSome (blocked_from d.target o) (IsRightlyBlocked r xs us p) =
    elim [
      | Ok m ↦ λ g. tt
      | Err reason ↦ λ g.
          let blocks = blocks_from_gives r (taken_before r xs us p d.target) d.target reason g in
          (d.target, contains_map (λ (d : Decision). d.target) ds d i, refl, blocks)
    ] in
    go d.outcome (each d i) in
    let slots = filter_map-map (λ f. option_map (planned_slot f) (p f)) (λ (d : Decision). d.target) ds
    ∙ filter_map_same _ (λ d. option_map (planned_slot d.target) (placed_at d.outcome)) ds (λ d i. ap (option_map (planned_slot d.target)) (agree d i)) in
    reordered r fixed fixed us targets plan (IsPermutation-refl fixed) (IsPermutation-sym targets us made.same) (
      p,
      record {
        runway = made.runway;
        minutes = λ k x l. let w = contains_from_map (λ (d : Decision). d.target) ds (get_or us k x) (Contains-get_or us k x l) in subst P w.2 (least w.0 w.1);
        slots = rw slots made.slots;
        slot_order = made.slot_order;
        blocked = rw (names_shown p ds agree) (IsPermutation-map (λ (b : BlockedFlight). b.name) (blocked_given ds) plan.blocked made.blocked);
        rules = All-permutation (IsRightlyBlocked r xs us p) (blocked_given ds) plan.blocked made.blocked
            (All-given (λ d. blocked_from d.target d.outcome) (IsRightlyBlocked r xs us p) ds blocked);
        blocked_order = made.blocked_order;
      },
    )
