use Rattle.cdm_lines.proofs.ShiftLemmas.{are_shift_answers}
use Rattle.cdm_lines.proofs.shifts.shift_answers_are_lines.Goals as goal

pub returns : goal.returns
returns c = λ question d plan text is. are_shift_answers question d plan text is
