use Rattle.cdm_sequence.proofs.Words.{rules, answers_always}
use Rattle.cdm_sequence.proofs.sequencing.slots_of.Goals as goal

pub returns-clause-sorted : goal.returns-clause-sorted
returns-clause-sorted c = c.sort_unstable_by_key.ensures.sorted (λ s. (s.ttot, s.name)) (answers_always _ _ _ (λ f a r q k. search rules))
