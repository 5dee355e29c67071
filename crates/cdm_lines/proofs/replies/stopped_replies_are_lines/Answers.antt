use Rattle.cdm_lines.proofs.ReplyLemmas.{stopped_lines}
use Rattle.cdm_lines.proofs.replies.stopped_replies_are_lines.Goals as goal

pub returns : goal.returns
returns c = λ sentences g marked done airport is. stopped_lines sentences g marked done airport is
