use Rattle.std.proofs.{Common.{◌≡◌, ◌∙◌, subst, sym}, lemmas.Result.IfOk-weaker}
use Rattle.cdm_kinds.specs.declared.format.Format.TheVariants.{Json}
use Rattle.cdm_plan.proofs.NameLemmas.{rules_by_name, rules_in}
use Rattle.cdm_shift.specs.{Answers.IsShiftText, Objects.warning_lines}
use Rattle.cdm_shift.proofs.answering.shift_lines.Goals as goal

pub returns-in-Warnings : goal.returns-in-Warnings
returns-in-Warnings g c =
    let d = g.R.Records.day c.args.records.now in
    let plan = c.args.plan.now in
    let rows = c.in_ok-rows.rows in
    let runways = rules_in d.airport d.journal in
    let by_name = rules_by_name d in
    let same : c.as_slice-rows.result.now ≡ rows = c.as_slice-rows.ensures.items in
    IfOk-weaker c.warning_lines.result _ _ (λ text made.
    subst (λ q. IsShiftText Json q d plan text.items) (sym c.in-Warnings.is)
    (rows, runways, c.in_ok-rows.ensures.all, by_name, made runways by_name ∙ (λ i. warning_lines d plan (same i) runways)))
    c.warning_lines.ensures
