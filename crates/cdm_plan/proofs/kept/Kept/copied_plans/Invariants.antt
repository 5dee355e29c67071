use Rattle.std.proofs.Common.{◌≡◌, take}
use Rattle.cdm_plan.proofs.{ListWords.filter_map, PlanWords.kept_plan}
use Rattle.cdm_plan.proofs.kept.Kept.copied_plans.Given as goal

abbrev pub invariant-loop-runway : goal.invariant-loop-runway
invariant-loop-runway l = l.copies.items ≡ filter_map (λ r. kept_plan l.self.touched.now l.self.plans.now r.now.name) (take l.runway-index l.runways)
