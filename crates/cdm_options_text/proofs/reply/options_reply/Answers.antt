use Rattle.std.proofs.{Common.{◌≡◌, ◌++◌, Some, map}, lemmas.Result.IfOk-weaker}
use Rattle.std.specs.Prelude.{codes, flat_map}
use Rattle.cdm_json.{proofs.TokenLemmas.{line_written, more_parts}, specs.Lines.head_members}
use Rattle.cdm_row.specs.Json.{member_tokens}
use Rattle.cdm_options_text.specs.Objects.{flight_members, helping_member, member_of}
use Rattle.cdm_options_text.proofs.reply.options_reply.Goals as goal

pub returns : goal.returns
returns c =
    let head = head_members (Some c.args.number) (codes "OPTIONS") in
    let flight = map (member_of c.args.day) (flight_members c.args.options.now) in
    let helping = helping_member c.args.day c.args.options.now in
    let begun = c.in_ok-writer.writer.tokens in
    let first : c.push_members.new.writer.tokens ≡ begun ++ flat_map member_tokens flight = rw c.flight_members.ensures at c.in_ok-push_members.ensures.tokens in
    let all = more_parts begun _ _ flight helping first c.in_ok-push_helping.ensures.tokens in
    let written = line_written begun _ head (flight ++ helping) c.in_ok-writer.ensures.tokens all in
    IfOk-weaker c.end_line.result _ _ (λ text is. is (head ++ (flight ++ helping)) written) c.end_line.ensures.line
