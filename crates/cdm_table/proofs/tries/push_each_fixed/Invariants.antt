use Rattle.cdm_table.{proofs.Words.{◌≡◌, ◌++◌, take, flat_map}, specs.Moved.fixed_try}
use Rattle.cdm_table.proofs.tries.push_each_fixed.Given as goal

abbrev pub invariant-loop-scenario : goal.invariant-loop-scenario
invariant-loop-scenario l = l.tries.items ≡ l.initial.tries.items ++ flat_map fixed_try (take l.scenario-index l.scenarios)
