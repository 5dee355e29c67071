use Rattle.cdm_lines.proofs.ReaderLemmas.{keeps_up}
use Rattle.cdm_lines.proofs.replies.readers_keep_up.Goals as goal

pub returns : goal.returns
returns c = keeps_up
