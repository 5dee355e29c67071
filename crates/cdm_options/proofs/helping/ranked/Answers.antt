use Rattle.std.proofs.Common.{rules}
use Rattle.std.proofs.lemmas.List.Sorted.{answers_always}
use Rattle.cdm_options.proofs.helping.ranked.Goals as goal

pub returns-clause-best_first : goal.returns-clause-best_first
returns-clause-best_first c =
    c.sort_unstable_by_key.ensures.sorted (λ h. (h.ttot, h.counts.blocked, h.counts.delay, h.place)) (answers_always _ _ _ (λ f a r q k. search rules))
