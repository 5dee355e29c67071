use Rattle.cdm_kinds.specs.Kinds.{all_kinds}
use Rattle.cdm_lines.proofs.KindLemmas.{are_kinds}
use Rattle.cdm_lines.proofs.kinds.kinds_are_lines.Goals as goal

pub returns : goal.returns
returns c = are_kinds all_kinds
