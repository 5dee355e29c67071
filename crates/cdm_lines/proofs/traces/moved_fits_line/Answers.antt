use Rattle.cdm_lines.proofs.TraceLemmas.{moved_fits}
use Rattle.cdm_lines.proofs.traces.moved_fits_line.Goals as goal

pub returns : goal.returns
returns c = λ day number fields row. moved_fits day number fields row
