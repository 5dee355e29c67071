use Rattle.std.proofs.Common.{Bor, ◌<◌, ◌++◌, ◌∷◌, Option, length, take, sym, ◌∙◌, ap, arith, []}
use Rattle.cdm_plan.proofs.ListWords.{cons_option, filter_map, take_more, filter_map-append}
use Rattle.cdm_plan.proofs.PlanWords.{RunwayRules, RunwayPlan, kept_plan}
use Rattle.cdm_plan.proofs.kept.Kept.copied_plans.Goals as goal

pub loop-runway-preserved : goal.loop-runway-preserved
loop-runway-preserved c =
    let rs = c.args.runways.now in
    let k = c.loop-runway.runway-index in
    let r = c.runway-item.result in
    let kept = kept_plan c.args.self.now.touched.now c.args.self.now.plans.now in
    let stands : Bor RunwayRules → Option RunwayPlan = λ r. kept r.now.name in
    let inside : k < length rs = omega arith in
    let next = ap (filter_map stands) (take_more rs k r inside ∙ ap (λ (x : Bor RunwayRules). take k rs ++ x ∷ []) (sym c.runway-item.is))
    ∙ filter_map-append stands (take k rs) (r ∷ []) in
    c.in_ok-push_copy.ensures ∙ ((λ i. c.loop-runway.invariant i ++ cons_option ((c.plan_on.ensures ∙ ap kept c.name.ensures) i) []) ∙ sym next)
