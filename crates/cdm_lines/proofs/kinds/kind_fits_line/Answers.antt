use Rattle.cdm_lines.proofs.KindLemmas.{kind_fits}
use Rattle.cdm_lines.proofs.kinds.kind_fits_line.Goals as goal

pub returns : goal.returns
returns c = λ kind. kind_fits kind
