use Rattle.std.proofs.Common.{◌≡◌, take}
use Rattle.cdm_sequence.proofs.plan.copies.Given as goal

abbrev pub invariant-loop-plan : goal.invariant-loop-plan
invariant-loop-plan l = l.copies.items ≡ take l.plan-index l.plans
