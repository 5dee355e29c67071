use Rattle.cdm_lines.proofs.AnswerLemmas.{plan_fits}
use Rattle.cdm_lines.proofs.answers.plan_fits_line.Goals as goal

pub returns : goal.returns
returns c = λ day of plan rows refused. plan_fits day of plan rows refused
