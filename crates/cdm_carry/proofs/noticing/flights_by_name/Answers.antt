use Rattle.std.proofs.Common.{rules}
use Rattle.cdm_flight.specs.declared.flight.Flight.{Flight}
use Rattle.cdm_plan.proofs.ListWords.{answers_always}
use Rattle.cdm_carry.proofs.noticing.flights_by_name.Goals as goal

pub returns-clause-by_name : goal.returns-clause-by_name
returns-clause-by_name c = c.sort_unstable_by_key.ensures.sorted (λ (f : Flight). f.name) (answers_always _ _ _ (λ f a r q k. search rules))
