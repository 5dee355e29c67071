use Rattle.std.proofs.lemmas.List.{get_or-replicate}
use Rattle.cdm_runway.proofs.load.no_occupancies.Goals as goal

pub returns-clause-none : goal.returns-clause-none
returns-clause-none c = λ k below. get_or-replicate 2880 k 0 0 below
