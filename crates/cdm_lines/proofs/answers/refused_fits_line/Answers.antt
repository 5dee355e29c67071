use Rattle.cdm_lines.proofs.AnswerLemmas.{refused_fits}
use Rattle.cdm_lines.proofs.answers.refused_fits_line.Goals as goal

pub returns : goal.returns
returns c = λ number word. refused_fits number word
