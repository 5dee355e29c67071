use Rattle.std.proofs.Common.{◌≡◌, ◌++◌, take}
use Rattle.cdm_plan.proofs.ListWords.{flat_map}
use Rattle.cdm_view.specs.Standings.{on_runway}
use Rattle.cdm_view.proofs.gathering.push_runways.Given as goal

abbrev pub invariant-loop-plan : goal.invariant-loop-plan
invariant-loop-plan l = l.standings.items ≡ l.initial.standings.items ++ flat_map on_runway (take l.plan-index l.plans)
