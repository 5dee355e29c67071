use Rattle.cdm_lines.proofs.ReplyLemmas.{ready_fits}
use Rattle.cdm_lines.proofs.replies.ready_fits_line.Goals as goal

pub returns : goal.returns
returns c = λ count. ready_fits count
