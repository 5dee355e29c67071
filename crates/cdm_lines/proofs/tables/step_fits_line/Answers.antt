use Rattle.cdm_lines.proofs.TableLemmas.{step_fits}
use Rattle.cdm_lines.proofs.tables.step_fits_line.Goals as goal

pub returns : goal.returns
returns c = λ day name at s. step_fits day name at s
