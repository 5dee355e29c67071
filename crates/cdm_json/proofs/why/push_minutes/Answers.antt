use Rattle.cdm_json.proofs.Words.{◌∙◌, append_assoc, append-nil, on_ok_weaker}
use Rattle.cdm_json.proofs.why.push_minutes.Goals as goal

pub returns-clause-tokens : goal.returns-clause-tokens
returns-clause-tokens c =
    on_ok_weaker c.push_member.result
    (λ last. last ∙ simp (c.in_ok-push_text.ensures.tokens, c.in_ok-push_minute-2.ensures.tokens, c.in_ok-push_minute.ensures.tokens)
    (simp (c.reason_word.ensures, c.reason_cap.ensures, append_assoc, append-nil))) c.push_member.ensures.tokens
