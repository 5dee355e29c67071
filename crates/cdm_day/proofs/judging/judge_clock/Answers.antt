use Rattle.cdm_day.proofs.{Words.{arith, common_steps}, DayWords.refusal_of}
use Rattle.cdm_day.proofs.judging.judge_clock.Goals as goal

pub returns-then-lt : goal.returns-then-lt
unfolding refusal_of
returns-then-lt g c = grind (arith, common_steps)

pub returns : goal.returns
unfolding refusal_of
returns g c = grind (arith, common_steps)
