use Rattle.std.proofs.lemmas.Result.{on_ok_weaker}
use Rattle.cdm_row.proofs.TokenLemmas.{object_written}
use Rattle.cdm_options_text.proofs.reply.push_object.Goals as goal

pub returns-clause-tokens : goal.returns-clause-tokens
returns-clause-tokens c =
    on_ok_weaker c.end_object.result
    (λ last. object_written _ _ _ _ _ c.in_ok-begin_object.ensures.ok c.in_ok-push_members.ensures.tokens last) c.end_object.ensures.ok
