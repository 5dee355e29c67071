use Rattle.cdm_day.proofs.Words.{rules, answers_always}
use Rattle.cdm_day.proofs.tables.runways.plain_runways.Goals as goal

pub returns-clause-sorted : goal.returns-clause-sorted
returns-clause-sorted c = c.sort_unstable_by_key.ensures.sorted (λ runway. runway.name) (answers_always _ _ _ (λ f a r q k. search rules))
