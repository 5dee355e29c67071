-- A runway has one sequence, in whatever order its flights stand.
use Rattle.cdm_sequence.proofs.Words.{rules, ◌≡◌, ℕ, ◌/◌, ◌==◌, Bool, false, cond, List, Option, is_none, sym, ◌∙◌, ap, subst, arith}
use Rattle.cdm_sequence.proofs.Words.{filter, map, get_or, Ordering, Equal, is_lt, nat_cmp, IsTotalOrder, Contains, IsDistinct}
use Rattle.cdm_sequence.proofs.Words.{IsPermutation, IsSortedBy, option_map, nat_cmp_total, nat_list_cmp_total, on_total, then_total}
use Rattle.cdm_sequence.proofs.Words.{All-contains, All-weaker, ranks_by, All-permutation, Contains-permutation, IsPermutation-sym}
use Rattle.cdm_sequence.proofs.Words.{IsPermutation-trans, IsPermutation-append, IsPermutation-map, IsDistinct-IsPermutation, name_cmp}
use Rattle.cdm_sequence.proofs.Words.{same_name, is_before, filter_map_same, IsPermutation-filter_map, IsPermutation-filter, distinct_right}
use Rattle.cdm_sequence.proofs.Words.{one_of_key, RunwayRules, held_in_cell, meets, taken_by, IsFree, IsSpaced, Taken}
use Rattle.cdm_sequence.proofs.{NameLemmas.shown_by, OrderLemmas.{same_flips, is_same, tied_names, last_ties}}
use Rattle.cdm_sequence.{proofs.PlanLemmas.{plan_agree, plan_one, taken_agree}, specs.Fixed.takeoffs}
use Rattle.cdm_sequence.specs.Plan.{Placing, taken_before, taken_of, IsLeast}
use Rattle.cdm_sequence.specs.Sequence.{planned_slot, flight_names, Blocks, IsRightlyBlocked, IsSequenceBy, IsSequence}
use Rattle.cdm_sequence.specs.{inner.Shown.{slots_by, names_left}, Slots.slot_cmp, declared.plan.RunwayPlan.RunwayPlan}
use Rattle.cdm_sequence.specs.declared.{slot.Slot.Slot, target.Target.Target, rule.Rule.Rule}
use Rattle.cdm_sequence.specs.declared.{rule.Rule.TheVariants.{Closure, Spacing, Rate}, slot.BlockedFlight.BlockedFlight}
use Rattle.std.proofs.lemmas.List.Sorted.{sum_by-IsPermutation}
use Rattle.cdm_flight.proofs.Lists.{filter_same, sum_map, sorted_one, distinct_left}

-- Any order.

-- how full a cell is doesn't depend on the order of what is taken
held_permuted : (c m : ℕ) (xs ys : List Taken) → IsPermutation xs ys → held_in_cell c ys m ≡ held_in_cell c xs m
held_permuted c m xs ys same = sum_by-IsPermutation (λ t. cond (t.minute / c == m / c) 1 0) xs ys same

module _ (r : RunwayRules) (xs ys : List Taken) (f : Target) (same : IsPermutation xs ys) where
  spaced_permuted : (m : ℕ) → IsSpaced r xs f.group m → IsSpaced r ys f.group m
  spaced_permuted m = All-permutation (λ t. meets (taken_by r f.group m) t ≡ false) xs ys same

  spaced_back : (m : ℕ) → IsSpaced r ys f.group m → IsSpaced r xs f.group m
  spaced_back m = All-permutation (λ t. meets (taken_by r f.group m) t ≡ false) ys xs (IsPermutation-sym xs ys same)

  -- nor does which minute a flight may take
  free_permuted : (m : ℕ) → IsFree r xs f.group m → IsFree r ys f.group m
  free_permuted m free = record {
    is_open = free.is_open;
    is_spaced = spaced_permuted m free.is_spaced;
    has_room = let h = held_permuted r.cell m xs ys same in let t = free.has_room in omega arith;
  }

  free_back : (m : ℕ) → IsFree r ys f.group m → IsFree r xs f.group m
  free_back m free = record {
    is_open = free.is_open;
    is_spaced = spaced_back m free.is_spaced;
    has_room = let h = held_permuted r.cell m xs ys same in let t = free.has_room in omega arith;
  }

  -- nor its earliest one
  least_permuted : (o : Option ℕ) → IsLeast r xs f o → IsLeast r ys f o
  least_permuted o e = search (rules, free_back, free_permuted)

  -- nor why it is blocked
  blocks_permuted : (rule : Rule) → Blocks r xs f rule → Blocks r ys f rule
  blocks_permuted Closure e = e
  blocks_permuted Spacing e = search (rules, spaced_back)
  blocks_permuted Rate e = record {
    some_spaced = let (k, a, b, o, spaced) = e.some_spaced in (k, a, b, o, spaced_permuted k spaced);
    full = λ k a b o spaced. let h = held_permuted r.cell k xs ys same in let t = e.full k a b o (spaced_back k spaced) in omega arith;
  }
  blocks_permuted _ e = absurd e

-- the sequence of flights is that of the same flights in another order
reordered_by : (p : Placing) (r : RunwayRules) (fixed fixed' : List Slot) (ts us : List Target) (plan : RunwayPlan)
    → IsPermutation fixed fixed' → IsPermutation ts us → IsSequenceBy p r fixed ts plan → IsSequenceBy p r fixed' us plan
reordered_by p r fixed fixed' ts us plan same order e =
    let xs = takeoffs r fixed in
    let ys = takeoffs r fixed' in
    let taken : (f : Target) → IsPermutation (taken_before r xs ts p f) (taken_before r ys us p f) = λ f.
    let earlier : Target → Bool = λ g. is_before g.key f.key in
    IsPermutation-append _ _ _ _ (IsPermutation-map (λ (x : Slot). taken_by r x.group x.ttot) fixed fixed' same)
    (IsPermutation-filter_map (taken_of r p) (filter earlier ts) (filter earlier us) (IsPermutation-filter earlier ts us order)) in
    let slot : Target → Option Slot = λ f. option_map (planned_slot f) (p f) in
    let free : Target → Bool = λ f. is_none (p f) in
    record {
      runway = e.runway;
      minutes = All-permutation (λ f. IsLeast r (taken_before r ys us p f) f (p f)) ts us order
          (λ k d l. let f = get_or ts k d in least_permuted r (taken_before r xs ts p f) (taken_before r ys us p f) f (taken f) (p f) (e.minutes k d l));
      slots = IsPermutation-trans _ _ _ (IsPermutation-sym _ _ (IsPermutation-append _ _ _ _ same (IsPermutation-filter_map slot ts us order))) e.slots;
      slot_order = e.slot_order;
      blocked = IsPermutation-trans _ _ _
          (IsPermutation-sym _ _ (IsPermutation-map (λ (f : Target). f.key.name) _ _ (IsPermutation-filter free ts us order))) e.blocked;
      rules = All-weaker (IsRightlyBlocked r xs ts p) (IsRightlyBlocked r ys us p)
          (λ b w.
          let other = blocks_permuted r (taken_before r xs ts p w.0) (taken_before r ys us p w.0) w.0 (taken w.0) b.rule w.3 in
          (w.0, Contains-permutation ts us w.0 order w.1, w.2, other))
          plan.blocked e.rules;
      blocked_order = e.blocked_order;
    }

pub reordered : (r : RunwayRules) (fixed fixed' : List Slot) (ts us : List Target) (plan : RunwayPlan)
    → IsPermutation fixed fixed' → IsPermutation ts us → IsSequence r fixed ts plan → IsSequence r fixed' us plan
reordered r fixed fixed' ts us plan same order (p, e) = (p, reordered_by p r fixed fixed' ts us plan same order e)

-- Any placing.

-- a placing that agrees with a sequence's on its targets is the sequence's
pub sequence_agree : (p q : Placing) (r : RunwayRules) (fixed : List Slot) (ts : List Target) (plan : RunwayPlan)
    → ((f : Target) → Contains ts f → p f ≡ q f) → IsSequenceBy p r fixed ts plan → IsSequenceBy q r fixed ts plan
sequence_agree p q r fixed ts plan agree e =
    let xs = takeoffs r fixed in
    let slots = filter_map_same (λ f. option_map (planned_slot f) (p f)) (λ f. option_map (planned_slot f) (q f)) ts
    (λ f i. ap (option_map (planned_slot f)) (agree f i)) in
    let left = filter_same (λ f. is_none (p f)) (λ f. is_none (q f)) ts (λ f i. ap is_none (agree f i)) in
    record {
      runway = e.runway;
      minutes = plan_agree r xs ts p q agree e.minutes;
      slots = rw (← slots) e.slots;
      slot_order = e.slot_order;
      blocked = rw (← left) e.blocked;
      rules = All-weaker (IsRightlyBlocked r xs ts p) (IsRightlyBlocked r xs ts q)
          (λ b w. let taken = taken_agree r xs ts p q w.0 (λ g l t. agree g l) in (w.0, w.1, w.2, rw (← taken) w.3)) plan.blocked e.rules;
      blocked_order = e.blocked_order;
    }

-- One sequence.

tie_from : {K : Type 0} {R : K → K → Ordering} → IsTotalOrder R → (a b : K) → is_lt (R a b) ≡ false → is_lt (R b a) ≡ false → R a b ≡ Equal
tie_from {K} {R} o a b h k = search rules

-- a list has one order by keys of which no two tie
pub one_order : {X K : Type 0} {R : K → K → Ordering} → IsTotalOrder R → (key : X → K) (all xs ys : List X)
    → ((a b : X) → Contains all a → Contains all b → R (key a) (key b) ≡ Equal → a ≡ b) → IsPermutation all xs → IsPermutation all ys
    → IsSortedBy (λ a b. is_lt (R (key a) (key b))) xs → IsSortedBy (λ a b. is_lt (R (key a) (key b))) ys → xs ≡ ys
one_order {X} {K} {R} total key all xs ys one same other up vp =
    sorted_one (λ a b. is_lt (R a b)) (ranks_by total (λ (k : K). k)) key xs ys
    (λ a b i j h k. one a b (Contains-permutation xs all a (IsPermutation-sym all xs same) i) (Contains-permutation ys all b (IsPermutation-sym all ys other) j)
    (tie_from total (key a) (key b) h k)) up vp
    (λ g. sum_by-IsPermutation (λ a. g (key a)) all xs same ∙ sym (sum_by-IsPermutation (λ a. g (key a)) all ys other))

slot_total : IsTotalOrder slot_cmp
slot_total = then_total (on_total (λ (s : Slot). s.ttot) nat_cmp_total) (on_total (λ (s : Slot). s.name) nat_list_cmp_total)

-- one rule blocks a flight
rule_one : (r : RunwayRules) (taken : List Taken) (f : Target) (a b : Rule) → Blocks r taken f a → Blocks r taken f b → a ≡ b
rule_one r taken f a b h k = search rules

-- two sequences by one placing are the same
same_plan : (p : Placing) (r : RunwayRules) (fixed : List Slot) (ts : List Target) (x y : RunwayPlan)
    → IsDistinct same_name (flight_names fixed ts) → IsSequenceBy p r fixed ts x → IsSequenceBy p r fixed ts y → x ≡ y
same_plan p r fixed ts x y own a b =
    let xs = takeoffs r fixed in
    let all = slots_by p fixed ts in
    let slot_name : Slot → List ℕ = λ s. s.name in
    let key : Target → List ℕ = λ f. f.key.name in
    let names = distinct_left same_name (map slot_name all) (names_left p ts) (IsDistinct-IsPermutation same_name same_flips _ _ (shown_by p fixed ts) own) in
    let slots : x.slots ≡ y.slots = one_order slot_total (λ (s : Slot). s) all x.slots y.slots
    (λ s t i j tied. one_of_key same_name same_flips slot_name all s t names i j
    (is_same s.name t.name (tied_names s.name t.name (last_ties (nat_cmp s.ttot t.ttot) (name_cmp s.name t.name) tied))))
    a.slots b.slots a.slot_order b.slot_order in
    let name : BlockedFlight → List ℕ = λ c. c.name in
    let own_targets = distinct_right same_name (map slot_name fixed) (map key ts) own in
    let blocked : x.blocked ≡ y.blocked =
    sorted_one (λ m n. is_lt (name_cmp m n)) (ranks_by nat_list_cmp_total (λ (n : List ℕ). n)) name x.blocked y.blocked
    (λ c d i j h k.
    let same : c.name ≡ d.name = tied_names c.name d.name (tie_from nat_list_cmp_total c.name d.name h k) in
    let v : IsRightlyBlocked r xs ts p c = All-contains (IsRightlyBlocked r xs ts p) x.blocked c a.rules i in
    let w : IsRightlyBlocked r xs ts p d = All-contains (IsRightlyBlocked r xs ts p) y.blocked d b.rules j in
    let named : w.0.key.name ≡ v.0.key.name = sym w.2 ∙ sym same ∙ v.2 in
    let target : w.0 ≡ v.0 = one_of_key same_name same_flips key ts w.0 v.0 own_targets w.1 v.1 (is_same _ _ named) in
    let other : Blocks r (taken_before r xs ts p v.0) v.0 d.rule = subst (λ (f : Target). Blocks r (taken_before r xs ts p f) f d.rule) target w.3 in
    let rule : c.rule ≡ d.rule = rule_one r (taken_before r xs ts p v.0) v.0 c.rule d.rule v.3 other in
    λ i. record { name = same i; rule = rule i })
    a.blocked_order b.blocked_order
    (λ g.
    sym (sum_map g name x.blocked) ∙ sum_by-IsPermutation g (names_left p ts) (map name x.blocked) a.blocked
    ∙ sym (sum_by-IsPermutation g (names_left p ts) (map name y.blocked) b.blocked) ∙ sum_map g name y.blocked) in
    let runway : x.runway ≡ y.runway = a.runway ∙ sym b.runway in
    λ i. record { runway = runway i; slots = slots i; blocked = blocked i }

-- a runway has one sequence
pub sequence_one : (r : RunwayRules) (fixed fixed' : List Slot) (ts us : List Target) (x y : RunwayPlan)
    → IsDistinct same_name (flight_names fixed ts)
    → IsPermutation fixed fixed' → IsPermutation ts us → IsSequence r fixed ts x → IsSequence r fixed' us y → x ≡ y
sequence_one r fixed fixed' ts us x y own same order (p, a) (q, b) =
    let back = reordered_by q r fixed' fixed us ts y (IsPermutation-sym fixed fixed' same) (IsPermutation-sym ts us order) b in
    same_plan p r fixed ts x y own a (sequence_agree q p r fixed ts y (plan_one r (takeoffs r fixed) ts q p back.minutes a.minutes) back)
