use Rattle.cdm_lines.proofs.AnswerLemmas.{are_answers}
use Rattle.cdm_lines.proofs.answers.answers_are_lines.Goals as goal

pub returns : goal.returns
returns c = λ question d number plan text is. are_answers question d number plan text is
