use Rattle.cdm_sequence.proofs.PlanLemmas.{plan_first}
use Rattle.cdm_sequence.proofs.laws.plans_are_first.Goals as goal

pub returns : goal.returns
returns c = plan_first
