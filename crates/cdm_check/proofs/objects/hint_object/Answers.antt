use Rattle.std.proofs.{Common.[], lemmas.Result.IfOk-weaker}
use Rattle.cdm_json.proofs.TokenLemmas.{line_written}
use Rattle.cdm_check.specs.Check.{hint_members}
use Rattle.cdm_check.proofs.objects.hint_object.Goals as goal

pub returns : goal.returns
returns c =
    let members = hint_members c.args.path.now c.args.hint.now in
    let written = line_written _ _ [] members c.in_ok-writer.ensures.tokens c.in_ok-push_hint.ensures.tokens in
    IfOk-weaker c.end_line.result _ _ (λ text is. is members written) c.end_line.ensures.line
