use Rattle.cdm_json.proofs.Words.{◌∙◌, append_assoc, on_ok_weaker}
use Rattle.cdm_json.proofs.why.push_ice.Goals as goal

pub returns-clause-tokens : goal.returns-clause-tokens
returns-clause-tokens c =
    let first = rw c.in_ok-begin_object.was at c.begin_object.ensures.ok in
    on_ok_weaker c.end_object.result
    (λ last. last ∙ simp (c.in_ok-push_count.ensures.tokens, c.in_ok-push_text.ensures.tokens, first, append_assoc)
    (simp (c.ice_kind.ensures, c.from.ensures, c.ice_minutes.ensures))) c.end_object.ensures.ok
