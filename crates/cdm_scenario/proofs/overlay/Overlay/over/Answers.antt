use Rattle.cdm_plan.proofs.KeptLemmas.{since_itself}
use Rattle.cdm_scenario.proofs.OverlayLemmas.{since_noted}
use Rattle.cdm_scenario.proofs.overlay.Overlay.over.Goals as goal

pub invariant_of-result : goal.invariant_of-result
invariant_of-result c =
    since_noted c.args.base.now c.args.base.now c.over.result c.none.result c.none.result c.over.ensures (λ r h. h) (since_itself c.args.base.now c.none.result)
