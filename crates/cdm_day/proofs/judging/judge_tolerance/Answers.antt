use Rattle.cdm_day.proofs.{Words.{common_steps, arith}, DayWords.refusal_of}
use Rattle.cdm_day.proofs.judging.judge_tolerance.Goals as goal

pub returns : goal.returns
unfolding refusal_of
returns g c = grind (arith, common_steps)
