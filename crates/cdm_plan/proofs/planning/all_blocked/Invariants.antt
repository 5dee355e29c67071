use Rattle.std.proofs.Common.{◌≡◌, ◌++◌, take}
use Rattle.cdm_plan.proofs.ListWords.{flat_map}
use Rattle.cdm_plan.proofs.planning.all_blocked.Given as goal

abbrev pub invariant-loop-plan : goal.invariant-loop-plan
invariant-loop-plan l = l.all.items ≡ l.fn.early.items ++ flat_map (λ p. p.blocked) (take l.plan-index l.plans)
