use Rattle.std.{proofs.Common.{◌≡◌, take}, specs.Prelude.flat_map}
use Rattle.cdm_shift.specs.Held.{causes_named}
use Rattle.cdm_shift.proofs.costs.costs_of.Given as goal

abbrev pub invariant-loop-row : goal.invariant-loop-row
invariant-loop-row g l = l.causes.items ≡ flat_map (λ row. causes_named (g.R.Records.day l.records) l.plan row.flight) (take l.row-index l.rows)
