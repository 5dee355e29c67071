use Rattle.std.proofs.Common.{◌≡◌, filter, take}
use Rattle.cdm_shift.specs.Costs.{is_on_stand}
use Rattle.cdm_shift.proofs.costs.on_stand.Given as goal

abbrev pub invariant-loop-row : goal.invariant-loop-row
invariant-loop-row l = l.found.items ≡ filter is_on_stand (take l.row-index l.rows)
