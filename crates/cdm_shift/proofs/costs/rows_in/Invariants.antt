use Rattle.std.proofs.Common.{◌≡◌, filter, take}
use Rattle.cdm_shift.specs.Costs.{group_of, same_group}
use Rattle.cdm_shift.proofs.costs.rows_in.Given as goal

abbrev pub invariant-loop-row : goal.invariant-loop-row
invariant-loop-row l = l.found.items ≡ filter (λ row. same_group (group_of l.by row) l.group) (take l.row-index l.rows)
