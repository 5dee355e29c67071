use Rattle.std.proofs.lemmas.Result.{IfOk-weaker}
use Rattle.cdm_kinds.specs.declared.format.Format.TheVariants.{Text, Json}
use Rattle.cdm_check.{specs.Findings.finding, proofs.LineLemmas.told_line}
use Rattle.cdm_check.proofs.lines.line_of.Goals as goal

pub returns-in-Text : goal.returns-in-Text
returns-in-Text c =
    let found = finding c.args.path.now (c.args.number, c.args.word) in
    IfOk-weaker c.finding_text.result _ _
    (λ text. told_line c.args.format Text found c.args.cause.now.line _ _ text.items c.in-Text.is c.deref-in-Text.ensures c.in_ok-sentence.ensures)
    c.finding_text.ensures

pub returns : goal.returns
returns c =
    let found = finding c.args.path.now (c.args.number, c.args.word) in
    IfOk-weaker c.finding_object.result _ _
    (λ text. told_line c.args.format Json found c.args.cause.now.line _ _ text.items c.in-Json.is c.deref-in-Json.ensures c.in_ok-sentence.ensures)
    c.finding_object.ensures
