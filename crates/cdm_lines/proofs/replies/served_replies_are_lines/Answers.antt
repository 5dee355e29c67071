use Rattle.cdm_lines.proofs.ReplyLemmas.{served_told}
use Rattle.cdm_lines.proofs.replies.served_replies_are_lines.Goals as goal

pub returns : goal.returns
returns c = λ sentences g marked bytes next whole airport heard is. served_told sentences g marked bytes next whole airport heard is
