use Rattle.std.proofs.{Common.{◌++◌, Some}, lemmas.Result.IfOk-weaker}
use Rattle.std.specs.Prelude.{codes}
use Rattle.cdm_check.specs.Check.{cause_members}
use Rattle.cdm_json.{proofs.TokenLemmas.line_written, specs.Lines.head_members}
use Rattle.cdm_serve.proofs.refusing.refused_line.Goals as goal

pub returns : goal.returns
returns c =
    let head = head_members (Some c.args.number) (codes "REFUSED") in
    let cause = cause_members c.args.word c.args.sentence.now in
    let written = line_written c.in_ok-writer.writer.tokens _ head cause c.in_ok-writer.ensures.tokens c.in_ok-push_cause.ensures.tokens in
    IfOk-weaker c.end_line.result _ _ (λ text is. is (head ++ cause) written) c.end_line.ensures.line
