use Rattle.std.proofs.Common.{◌≡◌, filter, take}
use Rattle.cdm_plan.proofs.PlanWords.{is_touched}
use Rattle.cdm_plan.proofs.work.touched_runways.Given as goal

abbrev pub invariant-loop-runway : goal.invariant-loop-runway
invariant-loop-runway l = l.left.items ≡ filter (λ r. is_touched l.touched r.now.name) (take l.runway-index l.runways)
