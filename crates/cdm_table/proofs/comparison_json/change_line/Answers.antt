use Rattle.cdm_table.proofs.Words.{◌≡◌, ◌∙◌, ◌++◌, [], flat_map, flight_name, row_named, member_tokens, line_written, ok_then}
use Rattle.cdm_table.specs.ComparisonJson.{change_line, change_members}
use Rattle.std.specs.Option.{option_copied}
use Rattle.cdm_table.proofs.comparison_json.change_line.Goals as goal

pub returns : goal.returns
returns c =
    let sides = c.args.sides.now in
    let s = c.args.standing.now in
    let name = flight_name s in
    let begun = c.in_ok-writer.writer.tokens in
    let before : option_copied c.row_named-before.result ≡ row_named sides.before.now name =
    c.row_named-before.ensures ∙ (λ i. row_named (c.as_slice.ensures.items i) (c.flight-name.ensures i)) in
    let after : option_copied c.row_named-after.result ≡ row_named sides.after.now name =
    c.row_named-after.ensures ∙ (λ i. row_named (c.as_slice-2.ensures.items i) (c.flight-name.ensures i)) in
    let members = change_members sides.day name (row_named sides.before.now name) (row_named sides.after.now name) in
    let all = c.in_ok-push_change.ensures.tokens
    ∙ (λ i. begun ++ flat_map member_tokens (change_members sides.day (c.flight-name.ensures i) (before i) (after i))) in
    ok_then _ (λ text. text.items ≡ change_line sides.day sides.before.now sides.after.now s) c.end_line.result
    (λ text is. is members (line_written begun _ [] members c.in_ok-writer.ensures.tokens all)) c.end_line.ensures.line
