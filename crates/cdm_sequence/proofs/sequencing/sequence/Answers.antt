use Rattle.cdm_sequence.proofs.Words.{◌≡◌, ◌+◌, ◌<◌, Bor, List, [], ◌∷◌, length, map, ap, ◌∙◌, arith, get_or-map, length-map, IsSortedByKey}
use Rattle.cdm_sequence.proofs.{Words.{length_permutation, same_name, key_cmp, Load, taken_by, distinct_right}, NameLemmas.all_shown}
use Rattle.cdm_sequence.proofs.{PlanLemmas.{first_one, plan_first}, SequenceLemmas.{IsMade, targets_of, sequence_made}}
use Rattle.cdm_sequence.specs.{declared.decision.Decision.Decision, Fixed.takeoffs, declared.slot.Slot.Slot, declared.target.Target.Target}
use Rattle.cdm_sequence.specs.{Plan.{Placing, IsFirst}, Sequence.IsSequenceBy}
use Rattle.cdm_sequence.proofs.sequencing.sequence.Goals as goal

abbrev target : Bor Target → Target
target t = t.now

-- targets that are sorted where they are borrowed
sorted_map : (ts : List (Bor Target)) → IsSortedByKey (λ (t : Bor Target). t.now.key) key_cmp ts → IsSortedByKey (λ (t : Target). t.key) key_cmp (map target ts)
sorted_map [] sorted = λ k d from below. absurd (omega (arith, below))
sorted_map (t ∷ ts) sorted = λ k d from below.
    let less : k + 1 < length (t ∷ ts) = omega (arith, below, length-map (t ∷ ts) target) in
    rw (get_or-map target (t ∷ ts) k t d (omega (arith, less)), get_or-map target (t ∷ ts) (k + 1) t d less) (sorted k t from less)

pub decide_all-requires-clause-room : goal.decide_all-requires-clause-room
decide_all-requires-clause-room c =
    let few = length-map c.args.fixed.now (λ (x : Slot). taken_by c.args.runway.now x.group x.ttot) in
    let taken = ap (λ (l : Load). length l.taken) c.take_fixed.ensures in
    let many = length-map c.in_ok-ordered.ordered.items target in
    omega (arith, length_permutation _ _ c.in_ok-ordered.ensures.same, ap length c.deref.ensures.value)

pub shown-requires : goal.shown-requires
shown-requires c =
    let few = length-map c.in_ok-decisions.decisions.items (λ (d : Decision). d.target) in
    let all = ap length (c.in_ok-decisions.ensures.targets ∙ ap (map target) c.deref.ensures.value) in
    omega (arith, length_permutation _ _ c.in_ok-ordered.ensures.same, ap length c.deref-2.ensures.value)

made : (c : goal.After-drop-ordered-2) → IsMade c.args.runway.now c.args.fixed.now c.args.targets.now c.in_ok-decisions.decisions.items c.in_ok-plan.plan
made c =
    let targets : targets_of c.in_ok-decisions.decisions.items ≡ map target c.in_ok-ordered.ordered.items =
    c.in_ok-decisions.ensures.targets ∙ ap (map target) c.deref.ensures.value in
    let taken : c.take_fixed.new.load.taken ≡ takeoffs c.args.runway.now c.args.fixed.now = ap (λ (l : Load). l.taken) c.take_fixed.ensures in
    record {
      names = c.requires.names;
      same = rw targets c.in_ok-ordered.ensures.same;
      sorted = rw targets (sorted_map c.in_ok-ordered.ordered.items c.in_ok-ordered.ensures.sorted);
      decided = rw (← taken) c.in_ok-decisions.ensures.decided;
      runway = c.in_ok-plan.ensures.runway ∙ c.name.ensures;
      slots = rw (← c.deref-2.ensures.value) c.in_ok-plan.ensures.slots;
      slot_order = c.in_ok-plan.ensures.slot_order;
      blocked = rw (← c.deref-2.ensures.value) c.in_ok-plan.ensures.blocked;
      blocked_order = c.in_ok-plan.ensures.blocked_order;
    }

pub returns-clause-sequence : goal.returns-clause-sequence
returns-clause-sequence c = sequence_made c.args.runway.now c.args.fixed.now c.args.targets.now c.in_ok-decisions.decisions.items c.in_ok-plan.plan (made c)

pub returns-clause-each_once : goal.returns-clause-each_once
returns-clause-each_once c = all_shown c.args.runway.now c.args.fixed.now c.args.targets.now c.in_ok-plan.plan (returns-clause-sequence c)

first : (c : goal.After-drop-ordered-2) (placing : Placing)
    → IsSequenceBy placing c.args.runway.now c.args.fixed.now c.args.targets.now c.in_ok-plan.plan
    → IsFirst c.args.runway.now (takeoffs c.args.runway.now c.args.fixed.now) c.args.targets.now placing
first c placing made =
    plan_first c.args.runway.now (takeoffs c.args.runway.now c.args.fixed.now) c.args.targets.now placing
    (distinct_right same_name (map (λ (x : Slot). x.name) c.args.fixed.now)
    (map (λ (f : Target). f.key.name) c.args.targets.now) c.requires.names) made.minutes

pub returns-clause-first : goal.returns-clause-first
returns-clause-first c = first c

pub returns-clause-only : goal.returns-clause-only
returns-clause-only c = λ placing other made is_first.
    first_one c.args.runway.now (takeoffs c.args.runway.now c.args.fixed.now) c.args.targets.now other placing is_first (first c placing made)
