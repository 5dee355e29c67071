use Rattle.cdm_json.proofs.{Words.{◌≡◌, ◌++◌, ℕ, List, Some, codes, Json, string, text_of}, TokenLemmas.{one_member, line_written, ok_then}}
use Rattle.cdm_json.specs.{Records.refused_members, Lines.{answer_line, head_members}}
use Rattle.cdm_json.proofs.record.refused_line.Goals as goal

pub returns : goal.returns
returns c =
    let head = head_members (Some c.args.number) (codes "REFUSED") in
    let word : List ℕ × Json = (codes "word", string (text_of c.args.word)) in
    let members = refused_members c.args.word in
    ok_then _ (λ text. text.items ≡ answer_line (Some c.args.number) (codes "REFUSED") members) c.end_line.result
    (λ text is. is (head ++ members) (line_written c.in_ok-writer.writer.tokens _ head members c.in_ok-writer.ensures.tokens (one_member _ _ word (rw c.text.ensures at c.in_ok-push_text.ensures.tokens))))
    c.end_line.ensures.line
