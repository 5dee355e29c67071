use Rattle.cdm_lines.proofs.AnswerLemmas.{why_fits}
use Rattle.cdm_lines.proofs.answers.why_fits_line.Goals as goal

pub returns : goal.returns
returns c = λ day number plan f row runs. why_fits day number plan f row runs
