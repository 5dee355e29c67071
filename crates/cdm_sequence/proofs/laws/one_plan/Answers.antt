use Rattle.cdm_sequence.proofs.PlanLemmas.{plan_one}
use Rattle.cdm_sequence.proofs.laws.one_plan.Goals as goal

pub returns : goal.returns
returns c = plan_one
