use Rattle.cdm_table.proofs.Words.{◌≡◌, ◌++◌, [], line_written, more_parts, ok_then}
use Rattle.cdm_table.specs.ComparisonJson.{name_members, summary_line, summary_members}
use Rattle.cdm_table.proofs.comparison_json.summary_line.Goals as goal

pub returns : goal.returns
returns c =
    let line = c.args.line.now in
    let begun = c.in_ok-writer.writer.tokens in
    let name = name_members line.name in
    let summary = summary_members line.summary in
    let all = more_parts begun _ _ name summary c.in_ok-push_name.ensures.tokens c.in_ok-push_summary.ensures.tokens in
    ok_then _ (λ text. text.items ≡ summary_line line) c.end_line.result
    (λ text is. is (name ++ summary) (line_written begun _ [] (name ++ summary) c.in_ok-writer.ensures.tokens all)) c.end_line.ensures.line
