use Rattle.cdm_plan.proofs.FirstLemmas.{day_first_one}
use Rattle.cdm_plan.proofs.laws.one_is_first_in_a_day.Goals as goal

pub returns : goal.returns
returns c = day_first_one
