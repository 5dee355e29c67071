use Rattle.cdm_table.proofs.Words.{◌≡◌, ℕ, List, [], ◌∷◌, codes, Json, string, line_written, more_parts, ok_then, one_member}
use Rattle.cdm_table.specs.Plans.{refusal_line, refusal_members}
use Rattle.cdm_table.proofs.plans.refusal_line.Goals as goal

pub returns : goal.returns
returns c =
    let begun = c.in_ok-writer.writer.tokens in
    let name : List ℕ × Json = (codes "scenario", string c.args.scenario.now) in
    let refusal = refusal_members c.args.number c.args.word in
    let one = one_member begun _ name (rw c.text.ensures.value at c.in_ok-push_text.ensures.tokens) in
    let all = more_parts begun _ _ (name ∷ []) refusal one c.in_ok-push_refusal.ensures.tokens in
    ok_then _ (λ text. text.items ≡ refusal_line c.args.scenario.now c.args.number c.args.word) c.end_line.result
    (λ text is. is (name ∷ refusal) (line_written begun _ [] (name ∷ refusal) c.in_ok-writer.ensures.tokens all)) c.end_line.ensures.line
