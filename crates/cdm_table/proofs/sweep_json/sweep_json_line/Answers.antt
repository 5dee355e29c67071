use Rattle.cdm_table.proofs.Words.{◌≡◌, ◌++◌, [], line_written, more_parts, ok_then}
use Rattle.cdm_table.specs.{ComparisonJson.{name_members, summary_members}, Sweep.{at_members, sweep_json_line}}
use Rattle.cdm_table.proofs.sweep_json.sweep_json_line.Goals as goal

pub returns : goal.returns
returns c =
    let line = c.args.line.now in
    let day = c.args.day in
    let begun = c.in_ok-writer.writer.tokens in
    let name = name_members line.name in
    let at = at_members day line.at in
    let summary = summary_members line.summary in
    let two = more_parts begun _ _ name at c.in_ok-push_name.ensures.tokens c.in_ok-push_at.ensures.tokens in
    let all = more_parts begun _ _ (name ++ at) summary two c.in_ok-push_summary.ensures.tokens in
    ok_then _ (λ text. text.items ≡ sweep_json_line day line) c.end_line.result
    (λ text is. is ((name ++ at) ++ summary) (line_written begun _ [] ((name ++ at) ++ summary) c.in_ok-writer.ensures.tokens all)) c.end_line.ensures.line
