use Rattle.std.{proofs.Common.{◌≡◌, [], map, take}, specs.Prelude.fold}
use Rattle.cdm_shift.specs.Costs.{group_of, with_group}
use Rattle.cdm_shift.proofs.costs.groups_of.Given as goal

abbrev pub invariant-loop-row : goal.invariant-loop-row
invariant-loop-row l = l.groups.items ≡ fold with_group [] (map (group_of l.by) (take l.row-index l.rows))
