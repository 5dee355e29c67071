use Rattle.cdm_json.proofs.Words.{◌∙◌, append_assoc, on_ok_weaker}
use Rattle.cdm_json.proofs.load.push_numbers.Goals as goal

pub returns-clause-tokens : goal.returns-clause-tokens
returns-clause-tokens c =
    on_ok_weaker c.push_count-3.result
    (λ last. last ∙ simp (c.in_ok-push_count-2.ensures.tokens, c.in_ok-push_count.ensures.tokens, c.in_ok-push_minute.ensures.tokens)
    (simp (c.first_minute.ensures.value, c.flights_in_cell-placed.ensures, append_assoc)
    (simp (c.from.ensures, c.cap_of_cell.ensures, c.from-2.ensures, c.closed_in_cell.ensures))))
    c.push_count-3.ensures.tokens
