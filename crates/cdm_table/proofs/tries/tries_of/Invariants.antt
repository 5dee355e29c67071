use Rattle.cdm_table.{proofs.Words.{◌≡◌, ◌++◌, take, flat_map}, specs.Moved.{fixed_try, tries_at}}
use Rattle.cdm_table.proofs.tries.tries_of.Given as goal

abbrev pub invariant-loop-at : goal.invariant-loop-at
invariant-loop-at l = l.tries.items ≡ flat_map fixed_try l.scenarios ++ flat_map (tries_at l.scenarios) (take l.at-index l.minutes)
