-- What a reason to wait at a minute says of it, and which rule blocks a flight, by its reasons.
use Rattle.std.proofs.Common.{◌≡◌, ℕ, suc, ◌+◌, ◌<◌, ◌≤◌, ◌/◌, ◌==◌, Bool, true, false, not, cond, ◌&&◌, List, length, filter, map, Option}
use Rattle.std.proofs.{Common.{Some, None, refl, sym, ◌∙◌, subst, inl, inr, arith}, lemmas.{List.Sums.length-filter, Grind.common_steps}}
use Rattle.std.proofs.lemmas.Bool.{and_from, and_parts, both_ways, cases_lt, cond_both, le-leb, leb-false, leb-true, lt-ltb, ltb-false}
use Rattle.std.proofs.lemmas.Bool.{ltb-true, not-false, not-true, not_from_false, Decides.Decides-by_and, Decides.nat_tests}
use Rattle.std.specs.{Bool.Decides, Option.IsSome, Option.IfSome, Option.IsSomeAnd}
use Rattle.cdm_flight.{proofs.Lists.sum_map, specs.Taxi.stand_minutes}
use Rattle.cdm_plan.proofs.{ListWords.{All, count_by, nat_le, nat_lt, option_map_or}, PlanWords.{RunwayRules, Slot}}
use Rattle.cdm_time.specs.Windows.{is_in_tolerance}
use Rattle.cdm_runway.specs.{Room.cap_at, Room.held_in_cell, Room.is_closed, Room.meets, Room.taken_by, Room.IsSpaced}
use Rattle.cdm_runway.specs.{declared.load.Taken.Taken}
use Rattle.cdm_sequence.specs.{Aims.is_candidate, Aims.ready_at, declared.rule.Rule.Rule}
use Rattle.cdm_view.specs.{Waits.place_of, Waits.rule_of, declared.reason.Reason.Reason, Reasons.{reason_at, Waiting, held_at, met_at}}
use Rattle.cdm_sequence.specs.declared.rule.Rule.TheVariants as rule

-- Lists.

-- a filter keeps nothing exactly where no element passes
none_decides : {X : Type 0} (q : X → Bool) (xs : List X)
    → Decides (length (filter q xs) == 0) (All (λ x. q x ≡ false) xs)
none_decides {X} q =
    Decides-by_and (λ (x : X). not (q x)) (λ (x : X). q x ≡ false) (λ (xs : List X). length (filter q xs) == 0)
    (λ x. (not-true (q x), not_from_false (q x))) refl (λ x xs. grind (arith, nat_tests))

-- how many it keeps by what the elements give
kept-map : {X Y : Type 0} (q : Y → Bool) (f : X → Y) (xs : List X)
    → length (filter (λ x. q (f x)) xs) ≡ count_by q (map f xs)
kept-map q f xs = length-filter (λ x. q (f x)) xs ∙ sym (sum_map (λ y. cond (q y) 1 0) f xs)

-- Rules.

-- rules of one place are one
pub one_place : (q r : Rule) → place_of q ≡ place_of r → q ≡ r
one_place q r e = grind arith

pub place_below : (r : Rule) → place_of r < 8
place_below r = grind arith

-- what a slot takes of a runway
abbrev pub taken_as : RunwayRules → Slot → Taken
taken_as r s = taken_by r s.group s.ttot

-- what is taken when the flight's turn comes
abbrev pub taken_for : Waiting → List Taken
taken_for w = map (taken_as w.rules) w.earlier

-- the first minute at which the flight could take off, and whether it could at a minute
abbrev pub earliest_for : Waiting → ℕ
earliest_for w = ready_at w.flight w.tobt w.values + w.exot

abbrev pub is_candidate_for : Waiting → ℕ → Bool
is_candidate_for w m = is_candidate w.values.tolerance (earliest_for w) w.flight.ctot m

-- the flight meets none at the minute
abbrev pub IsSpacedFor : Waiting → ℕ → Type 0
IsSpacedFor w m = IsSpaced w.rules (taken_for w) w.flight.group m

-- the minute keeps a rule
abbrev pub Keeps : Waiting → ℕ → Rule → Type 0
Keeps w m rule.Horizon = earliest_for w ≤ m
Keeps w m rule.Ctot = is_candidate_for w m ≡ true
Keeps w m rule.Closure = is_closed w.rules m ≡ false
Keeps w m rule.Spacing = IsSpacedFor w m
Keeps w m rule.Rate = held_in_cell w.rules.cell (taken_for w) m < cap_at w.rules m
Keeps w m _ = Unit {0}

-- and all that are tested before a place
abbrev pub KeepsBefore : Waiting → ℕ → ℕ → Type 0
KeepsBefore w m place = (r : Rule) → place_of r < place → Keeps w m r

module _ (w : Waiting) (m : ℕ) where
  -- a candidate is in reach
  pub candidate_within : is_candidate_for w m ≡ true → (earliest_for w ≤ m) × (m < 2880)
  candidate_within h = grind (arith, nat_tests)

  spaced_decides : Decides (length (met_at w m) == 0) (IsSpacedFor w m)
  spaced_decides =
      let own = meets (taken_by w.rules w.flight.group m) in
      let same : length (met_at w m) ≡ length (filter own (taken_for w)) =
      kept-map own (taken_as w.rules) w.earlier ∙ sym (length-filter own (taken_for w)) in
      subst (λ (n : ℕ). Decides (n == 0) (IsSpacedFor w m)) (sym same) (none_decides own (taken_for w))

  held_is : length (held_at w m) ≡ held_in_cell w.rules.cell (taken_for w) m
  held_is = kept-map (λ (t : Taken). t.minute / w.rules.cell == m / w.rules.cell) (taken_as w.rules) w.earlier

  -- one rule more
  pub and_next : (q : Rule) → KeepsBefore w m (place_of q) → Keeps w m q → KeepsBefore w m (suc (place_of q))
  and_next q before here r below = grind (arith, common_steps, cases_lt, one_place)

  pub none_before : KeepsBefore w m 3
  none_before r below = grind arith

  pub candidate_keeps : is_candidate_for w m ≡ true → KeepsBefore w m 5
  candidate_keeps h = and_next rule.Ctot (and_next rule.Horizon none_before (candidate_within h).0) h

  pub free_keeps : is_candidate_for w m ≡ true → is_closed w.rules m ≡ false → IsSpacedFor w m
      → held_in_cell w.rules.cell (taken_for w) m < cap_at w.rules m → (r : Rule) → Keeps w m r
  free_keeps h is_open spaced room r =
      let before = and_next rule.Spacing (and_next rule.Closure (candidate_keeps h) is_open) spaced in
      and_next rule.Rate before room r (place_below r)

  -- a reason says that the minute keeps the rules that are tested before, and not its own, and none that it keeps all
  abbrev pub Says : Option Reason → Type 0
  Says None = (r : Rule) → Keeps w m r
  Says (Some reason) = KeepsBefore w m (place_of (rule_of reason)) × (Keeps w m (rule_of reason) → ⊥)

  pub said : m < 2880 → Says (reason_at w m)
  unfolding reason_at
  said below =
      let iced = w.tobt + stand_minutes w.flight.ice + w.exot in
      let now = w.values.clock + w.exot in
      let slot = option_map_or (λ c. is_in_tolerance w.values.tolerance c m) w.flight.ctot true in
      let within = nat_le (earliest_for w) m && nat_lt m 2880 in
      let closed = is_closed w.rules m in
      let none = length (met_at w m) == 0 in
      let full = nat_le (cap_at w.rules m) (length (held_at w m)) in
      cond_both (nat_lt m iced) _ _ Says
      (λ here. let early = ltb-true m iced here in (none_before, λ keeps. omega arith)) (λ out.
      cond_both (nat_lt m now) _ _ Says
      (λ here. let early = ltb-true m now here in (none_before, λ keeps. omega arith)) (λ left.
      let after : earliest_for w ≤ m = let a = ltb-false m iced out in let b = ltb-false m now left in omega arith in
      let reached = and_next rule.Horizon none_before after in
      cond_both (not slot) _ _ Says
      (λ here. (reached, λ keeps. both_ways slot (not-true slot here) (and_parts within slot keeps).1)) (λ in_slot.
      let in_reach = and_from _ _ (le-leb (earliest_for w) m after) (lt-ltb m 2880 below) in
      let candidates = candidate_keeps (and_from within slot in_reach (not-false slot in_slot)) in
      cond_both closed _ _ Says (λ here. (candidates, λ keeps. both_ways closed keeps here)) (λ is_open.
      let opened = and_next rule.Closure candidates is_open in
      cond_both (not none) _ _ Says
      (λ here. (opened, λ keeps. both_ways none (not-true none here) (spaced_decides.1 keeps))) (λ alone.
      let spaced = and_next rule.Spacing opened (spaced_decides.0 (not-false none alone)) in
      let held = held_is in
      cond_both full _ _ Says
      (λ here. let most = leb-true (cap_at w.rules m) _ here in (spaced, λ keeps. omega arith)) (λ room r.
      let fewer = leb-false (cap_at w.rules m) _ room in
      and_next rule.Rate spaced (omega arith) r (place_below r)))))))

  -- where the minute keeps all rules there is none
  pub none_when : m < 2880 → ((r : Rule) → Keeps w m r) → reason_at w m ≡ None
  none_when below keeps = let says = said below in grind (arith, keeps)

  -- and elsewhere there is one
  pub some_unless : m < 2880 → (((r : Rule) → Keeps w m r) → ⊥) → IsSome (reason_at w m)
  some_unless below not_all = let says = said below in grind (arith, not_all)

-- the rule blocks the flight as it waits: some minute keeps all rules that are tested before, and none keeps this one too
pub record Blocked (w : Waiting) (why : Rule) : Type 0 where
  pub minute : ℕ
  pub within : minute < 2880
  pub before : KeepsBefore w minute (place_of why)
  pub never : (m : ℕ) → m < 2880 → KeepsBefore w m (suc (place_of why)) → ⊥

module _ (w : Waiting) (why : Rule) (is : Blocked w why) where
  -- so each minute has a reason
  pub always : (m : ℕ) → m < 2880 → IsSome (reason_at w m)
  always m below = some_unless w m below (λ keeps. is.never m below (λ r l. keeps r))

  -- none of a rule that is tested later
  no_later : (m : ℕ) → m < 2880 → (reason : Reason) → Says w m (Some reason) → place_of (rule_of reason) ≤ place_of why
  no_later m below reason says = elim (cases_lt (place_of why) (place_of (rule_of reason))) [
    | inl later ↦ absurd (is.never m below (λ r l. says.0 r (omega arith)))
    | inr other ↦ other
  ]

  -- the rule is the last of those of the reasons
  pub last : (m : ℕ) → m < 2880 → IfSome (reason_at w m) (λ reason. place_of (rule_of reason) ≤ place_of why)
  last m below = let says = said w m below in grind (arith, no_later m below)

  pub among : (m : ℕ) × (m < 2880) × IsSomeAnd (reason_at w m) (λ reason. rule_of reason ≡ why)
  among = (is.minute, is.within, by (reason_at w is.minute) (said w is.minute is.within))
    where
      by : (o : Option Reason) → Says w is.minute o → IsSomeAnd o (λ reason. rule_of reason ≡ why)
      by None says = absurd (is.never is.minute is.within (λ r l. says r))
      by (Some reason) says = elim (cases_lt (place_of (rule_of reason)) (place_of why)) [
        | inl earlier ↦ absurd (says.1 (is.before (rule_of reason) earlier))
        | inr other ↦
            let least = no_later is.minute is.within reason says in
            one_place (rule_of reason) why (omega arith)
      ]
