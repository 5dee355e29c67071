use Rattle.cdm_lines.proofs.CheckLemmas.{is_check}
use Rattle.cdm_lines.proofs.checks.checks_are_lines.Goals as goal

pub returns : goal.returns
returns c = λ a f s text is. is_check a f s text is
