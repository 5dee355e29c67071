use Rattle.std.proofs.Common.{length}
use Rattle.cdm_table.proofs.LeftLemmas.{Leaves}
use Rattle.cdm_table.proofs.plans.push_scenarios.Given as goal

abbrev pub invariant-scenarios : goal.invariant-scenarios
invariant-scenarios g l = Leaves l.fn.job.base.now l.fn.scenarios l.fn.text.items l.left l.text.items

abbrev pub decreases-scenarios : goal.decreases-scenarios
decreases-scenarios g l = length l.left
