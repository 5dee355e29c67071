use Rattle.cdm_json.{proofs.Words.{◌≡◌, ◌++◌, Some, codes}, proofs.TokenLemmas.{line_written, ok_then}, specs.Records.accepted_members}
use Rattle.cdm_json.specs.Lines.{answer_line, head_members}
use Rattle.cdm_json.proofs.record.accepted_line.Goals as goal

pub returns : goal.returns
returns c =
    let head = head_members (Some c.args.number) (codes "ACCEPTED") in
    let members = accepted_members c.args.day c.args.count c.args.rows.now in
    ok_then _ (λ text. text.items ≡ answer_line (Some c.args.number) (codes "ACCEPTED") members) c.end_line.result
    (λ text is. is (head ++ members) (line_written c.in_ok-writer.writer.tokens _ head members c.in_ok-writer.ensures.tokens (c.in_ok-push_changes.ensures.tokens)))
    c.end_line.ensures.line
