use Rattle.std.proofs.Common.{◌≡◌, map, take}
use Rattle.cdm_table.specs.Moved.{as_it_is}
use Rattle.cdm_table.proofs.tries.as_they_are.Given as goal

abbrev pub invariant-loop-scenario : goal.invariant-loop-scenario
invariant-loop-scenario l = l.tries.items ≡ map as_it_is (take l.scenario-index l.scenarios)
