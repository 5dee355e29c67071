use Rattle.cdm_sequence.proofs.Words.{◌≡◌, ℕ, ◌+◌, ◌<◌, ◌++◌, ◌∷◌, [], Bor, get_or, take, length, List, ap, map, subst, sym, ◌∙◌, arith}
use Rattle.cdm_sequence.proofs.Words.{append_assoc, filter_map, option_to_list, append-nil, map-append, map_more, take-map, Load, Taken}
use Rattle.cdm_sequence.{proofs.SequenceLemmas.{decided_push, minutes_of, at_most_one, minutes_push}, specs.declared.target.Target.Target}
use Rattle.cdm_sequence.specs.{declared.decision.Decision.Decision, inner.Turns.{taken_in, AreDecided}}
use Rattle.std.proofs.lemmas.List.{length-append}
use Rattle.cdm_sequence.proofs.turns.decide_all.Goals as goal

-- the targets of one more decision
one_more : (ds : List Decision) (ts : List (Bor Target)) (i : ℕ) (d : Decision) (t : Bor Target) → map (λ d. d.target) ds ≡ take i (map (λ t. t.now) ts) → i < length ts
    → t ≡ get_or ts i t → d.target ≡ t.now → map (λ d. d.target) (ds ++ d ∷ []) ≡ take (i + 1) (map (λ t. t.now) ts)
one_more ds ts i d t so_far below is of_it =
    map-append (λ (d : Decision). d.target) ds (d ∷ [])
    ∙ ((λ k. so_far k ++ (of_it ∙ ap (λ (t : Bor Target). t.now) is) k ∷ [])
    ∙ (ap (λ l. l ++ (get_or ts i t).now ∷ []) (take-map (λ (t : Bor Target). t.now) i ts)
    ∙ (sym (map_more (λ (t : Bor Target). t.now) ts i t below) ∙ sym (take-map (λ (t : Bor Target). t.now) (i + 1) ts))))

pub loop-target-init : goal.loop-target-init
loop-target-init c =
    let none : c.in_ok-decisions.decisions.items ≡ [] = c.in_ok-decisions.ensures.items in
    let taken = c.args.load.now.taken in
    record {
      cell = c.requires.cell;
      room = omega arith;
      targets = ap (map (λ (d : Decision). d.target)) none;
      taken = sym (append-nil taken) ∙ ap (λ (ds : List Decision). taken ++ filter_map (taken_in c.args.runway.now) ds) (sym none);
      passed = c.none-passed.ensures c.args.runway.now taken;
      decided = subst (λ (ds : List Decision). AreDecided c.args.runway.now taken ds) (sym none) tt;
    }

pub loop-target-preserved : goal.loop-target-preserved
loop-target-preserved c =
    let inv = c.loop-target.invariant in
    let d = c.decide-decision.result in
    let ds = c.loop-target.decisions.items in
    let now = option_to_list (taken_in c.args.runway.now d) in
    let items : c.push_last.new.items.items ≡ ds ++ d ∷ [] = c.in_ok-push_last.ensures in
    let taken = ap (λ (l : Load). l.taken) c.decide-decision.ensures.taken in
    record {
      cell = ap (λ (l : Load). l.cell) c.decide-decision.ensures.taken ∙ inv.cell;
      room = omega (arith, ap length taken, length-append c.loop-target.load.taken now, at_most_one (taken_in c.args.runway.now d));
      targets = ap (map (λ (d : Decision). d.target)) items
          ∙ one_more ds c.args.targets.now c.loop-target.target-index d c.target-item.result inv.targets c.loop-target-test.true c.target-item.is c.decide-decision.ensures.target;
      taken = rw (items, minutes_push c.args.runway.now ds d) (taken ∙ ap (λ (xs : List Taken). xs ++ now) inv.taken ∙ append_assoc c.args.load.now.taken (minutes_of c.args.runway.now ds) now);
      passed = c.decide-decision.ensures.passed;
      decided = rw items (decided_push c.args.runway.now c.args.load.now.taken ds d inv.decided (rw (← inv.taken) c.decide-decision.ensures.decided));
    }
