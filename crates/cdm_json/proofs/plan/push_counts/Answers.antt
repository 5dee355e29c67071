use Rattle.cdm_json.proofs.Words.{◌∙◌, append_assoc, on_ok_weaker}
use Rattle.cdm_json.proofs.plan.push_counts.Goals as goal

pub returns-clause-tokens : goal.returns-clause-tokens
returns-clause-tokens c =
    on_ok_weaker c.push_count-5.result
    (λ last. last ∙ simp (c.in_ok-push_count-4.ensures.tokens, c.in_ok-push_count-3.ensures.tokens)
    (simp (c.in_ok-push_count-2.ensures.tokens, c.in_ok-push_count.ensures.tokens, append_assoc)
    (simp (c.from.ensures, c.from-2.ensures, c.from-3.ensures, c.from-4.ensures, c.from-5.ensures))))
    c.push_count-5.ensures.tokens
