use Rattle.cdm_json.proofs.Words.{◌∙◌, append_assoc, append-nil, on_ok_weaker}
use Rattle.cdm_json.proofs.record.push_changes.Goals as goal

pub returns-clause-tokens : goal.returns-clause-tokens
returns-clause-tokens c =
    on_ok_weaker c.push_rows.result
    (λ last. last ∙ simp (c.in_ok-key.ensures.ok, c.in_ok-push_count.ensures.tokens, append_assoc, append-nil)) c.push_rows.ensures.tokens
