use Rattle.cdm_lines.proofs.KindLemmas.{kind_read_back}
use Rattle.cdm_lines.proofs.kinds.kinds_are_read_back.Goals as goal

pub returns : goal.returns
returns c = λ kind. kind_read_back kind
