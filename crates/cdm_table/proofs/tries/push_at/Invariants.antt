use Rattle.cdm_table.{proofs.Words.{◌≡◌, ◌++◌, take, flat_map}, specs.Moved.moved_try}
use Rattle.cdm_table.proofs.tries.push_at.Given as goal

abbrev pub invariant-loop-scenario : goal.invariant-loop-scenario
invariant-loop-scenario l = l.tries.items ≡ l.initial.tries.items ++ flat_map (moved_try l.at) (take l.scenario-index l.scenarios)
