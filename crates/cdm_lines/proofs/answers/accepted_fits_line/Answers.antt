use Rattle.cdm_lines.proofs.AnswerLemmas.{accepted_fits}
use Rattle.cdm_lines.proofs.answers.accepted_fits_line.Goals as goal

pub returns : goal.returns
returns c = λ day number count rows. accepted_fits day number count rows
