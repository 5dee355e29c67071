use Rattle.std.proofs.Common.{◌≡◌, map, take}
use Rattle.cdm_shift.specs.StartUps.{start_up}
use Rattle.cdm_shift.proofs.start_ups.start_ups.Given as goal

abbrev pub invariant-loop-row : goal.invariant-loop-row
invariant-loop-row g l = l.found.items ≡ map (start_up (g.R.Records.day l.records) l.plan) (take l.row-index l.row-items)
