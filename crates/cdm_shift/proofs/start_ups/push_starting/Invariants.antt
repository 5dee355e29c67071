use Rattle.std.proofs.Common.{◌≡◌, ◌++◌, filter, take}
use Rattle.cdm_shift.specs.StartUps.{starts_at}
use Rattle.cdm_shift.proofs.start_ups.push_starting.Given as goal

abbrev pub invariant-loop-row : goal.invariant-loop-row
invariant-loop-row l = l.found.items ≡ l.initial.found.items ++ filter (starts_at l.number) (take l.row-index l.rows)
