use Rattle.cdm_lines.proofs.AnswerLemmas.{values_fit}
use Rattle.cdm_lines.proofs.answers.values_fit_line.Goals as goal

pub returns : goal.returns
returns c = λ day members. values_fit day members
