use Rattle.std.proofs.Common.{◌∙◌, ap}
use Rattle.cdm_plan.proofs.PlanWords.{Plan}
use Rattle.cdm_view.proofs.differing.differing_plans.Goals as goal

pub differing_slots-requires : goal.differing_slots-requires
differing_slots-requires c =
    let plans = c.as_slice-plans.ensures ∙ ap (λ (p : Plan). p.runways) c.plan.view_is in
    let others = c.as_slice-others.ensures ∙ ap (λ (p : Plan). p.runways) c.next.view_is in
    rw (plans, others) c.requires
