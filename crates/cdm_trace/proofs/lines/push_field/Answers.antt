use Rattle.std.proofs.lemmas.Result.{MatchResult-at_err, MatchResult-at_ok, on_ok_weaker}
use Rattle.cdm_trace.proofs.LineLemmas.{null_written, text_written}
use Rattle.cdm_trace.proofs.lines.push_field.Goals as goal

pub returns-in-Ok-clause-tokens : goal.returns-in-Ok-clause-tokens
returns-in-Ok-clause-tokens c =
    let is = MatchResult-at_ok _ _ _ c.in-Ok.is c.from_utf8.ensures.cases in
    on_ok_weaker c.string.result (text_written c.args.writer.now.tokens _ c.args.field.now _ is) c.string.ensures.ok

pub returns-in-Err-clause-tokens : goal.returns-in-Err-clause-tokens
returns-in-Err-clause-tokens c =
    let isnt = MatchResult-at_err _ _ _ c.in-Err.is c.from_utf8.ensures.cases in
    on_ok_weaker c.null.result (null_written c.args.writer.now.tokens _ c.args.field.now isnt.0) c.null.ensures.ok
