use Rattle.std.proofs.Common.{◌++◌, ◌≤◌, length, sym, subst, ◌∙◌, arith, []}
use Rattle.cdm_plan.proofs.{ListWords.cons_option, PlanWords.AreByName}
use Rattle.cdm_plan.proofs.NameLemmas.{all_taken, length-by_name, rules_by_name, rules_in, runway_is, take-next}
use Rattle.cdm_plan.proofs.work.all_runways.Goals as goal

pub loop-place-preserved : goal.loop-place-preserved
loop-place-preserved g c =
    let d = g.R.Records.day c.args.records.now in
    c.in_ok-push_known.ensures
    ∙ ((λ i. c.loop-place.invariant i ++ cons_option
    (runway_is d c.loop-place.place _ c.runway_at.ensures.sound.airport c.runway_at.ensures.value i) [])
    ∙ sym (take-next (rules_in d.airport d.journal) c.loop-place.place))

pub returns : goal.returns
returns g c =
    let d = g.R.Records.day c.args.records.now in
    let these = rules_by_name d in
    let long = length-by_name d (rules_in d.airport d.journal) these in
    let end : length (rules_in d.airport d.journal) ≤ c.loop-place.place = omega (arith, long, c.runways-place-end.ensures.value) in
    subst (AreByName d) (sym (c.loop-place.invariant ∙ all_taken (rules_in d.airport d.journal) c.loop-place.place end)) these
