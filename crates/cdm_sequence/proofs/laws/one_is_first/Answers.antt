use Rattle.cdm_sequence.proofs.PlanLemmas.{first_one}
use Rattle.cdm_sequence.proofs.laws.one_is_first.Goals as goal

pub returns : goal.returns
returns c = first_one
