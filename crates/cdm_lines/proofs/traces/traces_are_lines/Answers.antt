use Rattle.cdm_lines.proofs.TraceLemmas.{is_trace}
use Rattle.cdm_lines.proofs.traces.traces_are_lines.Goals as goal

pub returns : goal.returns
returns c = λ asked from g feed text is. is_trace asked from g feed text is
