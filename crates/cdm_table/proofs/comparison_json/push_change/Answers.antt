use Rattle.std.proofs.{Common.{◌∙◌, append_assoc, append-nil}, lemmas.Result.on_ok_weaker}
use Rattle.cdm_table.proofs.comparison_json.push_change.Goals as goal

pub returns-clause-tokens : goal.returns-clause-tokens
returns-clause-tokens c =
    on_ok_weaker c.push_row_if_any-2.result
    (λ last. last ∙ simp (c.in_ok-push_row_if_any.ensures.tokens, c.in_ok-push_text.ensures.tokens, c.text.ensures.value, append_assoc, append-nil))
    c.push_row_if_any-2.ensures.tokens
