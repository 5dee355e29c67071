use Rattle.cdm_lines.proofs.TraceLemmas.{is_piece}
use Rattle.cdm_lines.proofs.traces.told_records_are_lines.Goals as goal

pub returns : goal.returns
returns c = λ asked d number fields piece is. is_piece asked d number fields piece is
