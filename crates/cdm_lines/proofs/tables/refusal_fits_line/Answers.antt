use Rattle.cdm_lines.proofs.TableLemmas.{refusal_fits}
use Rattle.cdm_lines.proofs.tables.refusal_fits_line.Goals as goal

pub returns : goal.returns
returns c = λ name number word. refusal_fits name number word
