use Rattle.std.proofs.lemmas.Result.{on_ok_weaker}
use Rattle.cdm_json.proofs.TokenLemmas.{array_member}
use Rattle.cdm_options_text.proofs.reply.push_helping.Goals as goal

pub returns-clause-tokens : goal.returns-clause-tokens
returns-clause-tokens c =
    on_ok_weaker c.end_array.result
    (array_member _ _ _ _ _ _ _ c.in_ok-key.ensures.ok c.in_ok-begin_array.ensures.ok c.in_ok-push_each.ensures.tokens) c.end_array.ensures.ok
