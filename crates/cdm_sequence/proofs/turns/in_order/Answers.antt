use Rattle.cdm_sequence.proofs.Words.{rules, List, Bor, map, subst, IsPermutation, answers_always, IsPermutation-map}
use Rattle.cdm_sequence.specs.declared.target.Target.{Target}
use Rattle.cdm_sequence.proofs.turns.in_order.Goals as goal

pub returns-clause-sorted : goal.returns-clause-sorted
returns-clause-sorted c = c.sort_unstable_by_key.ensures.sorted (λ t. t.now.key) (answers_always _ _ _ (λ f a r q k. search rules))

pub returns-clause-same : goal.returns-clause-same
returns-clause-same c =
    subst (λ (ts : List Target). IsPermutation ts (map (λ t. t.now) c.sort_unstable_by_key.new.self.items)) c.in_ok-sorted.ensures
    (IsPermutation-map (λ (t : Bor Target). t.now) c.in_ok-sorted.sorted.items c.sort_unstable_by_key.new.self.items c.sort_unstable_by_key.ensures.permutation)
