use Rattle.cdm_scenario.proofs.Words.{subst, sym, IsMade, IsSince, rules}
use Rattle.cdm_sequence.specs.declared.plan.Plan.{Plan}
use Rattle.cdm_plan.proofs.KeptLemmas.{kept_since}
use Rattle.cdm_scenario.proofs.overlay.Overlay.plan.Goals as goal

pub plan_keeping-requires : goal.plan_keeping-requires
plan_keeping-requires c =
    let o = c.self.inside in
    let plan : Plan = c.plan-before.result.now in
    let made : IsMade o.base.now plan = search rules in
    let since = subst (IsSince o.base.now o.touched) c.self.view_is c.self.invariant in
    rw (c.as_slice.ensures, c.as_slice-2.ensures)
    (kept_since o.base.now c.args.self.now o.touched c.before-2.inside (subst (IsMade o.base.now) (sym c.before-2.view_is) made) since)
