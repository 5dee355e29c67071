use Rattle.cdm_lines.proofs.ReplyLemmas.{explained_fits}
use Rattle.cdm_lines.proofs.replies.explained_fits_line.Goals as goal

pub returns : goal.returns
returns c = λ number word sentence. explained_fits number word sentence
