use Rattle.cdm_lines.proofs.AnswerLemmas.{load_fits}
use Rattle.cdm_lines.proofs.answers.load_fits_line.Goals as goal

pub returns : goal.returns
returns c = λ g number plan rules. load_fits g number plan rules
