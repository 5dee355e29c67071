use Rattle.cdm_lines.proofs.ReplyLemmas.{answer_line}
use Rattle.cdm_lines.proofs.replies.replies_are_lines.Goals as goal

pub returns : goal.returns
returns c = λ sentences d line number reply airport is. answer_line sentences d line number reply airport is
