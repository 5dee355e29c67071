use Rattle.std.proofs.{Common.{[], ◌++◌}, lemmas.Result.IfOk-weaker}
use Rattle.cdm_json.proofs.TokenLemmas.{line_written}
use Rattle.cdm_check.specs.Check.{cause_members, place_members}
use Rattle.cdm_check.proofs.objects.finding_object.Goals as goal

pub returns : goal.returns
returns c =
    let place = place_members c.args.path.now c.args.line c.args.number in
    let cause = cause_members c.args.word c.args.sentence.now in
    let first = line_written _ _ [] place c.in_ok-writer.ensures.tokens c.in_ok-push_place.ensures.tokens in
    let written = line_written _ _ place cause first c.in_ok-push_cause.ensures.tokens in
    IfOk-weaker c.end_line.result _ _ (λ text is. is (place ++ cause) written) c.end_line.ensures.line
