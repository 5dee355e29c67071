use Rattle.cdm_lines.proofs.TableLemmas.{change_fits}
use Rattle.cdm_lines.proofs.tables.change_fits_line.Goals as goal

pub returns : goal.returns
returns c = λ day name before after. change_fits day name before after
