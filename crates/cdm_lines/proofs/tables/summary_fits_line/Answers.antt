use Rattle.cdm_lines.proofs.TableLemmas.{summary_fits}
use Rattle.cdm_lines.proofs.tables.summary_fits_line.Goals as goal

pub returns : goal.returns
returns c = λ name s. summary_fits name s
