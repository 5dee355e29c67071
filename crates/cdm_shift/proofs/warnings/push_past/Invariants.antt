use Rattle.std.{proofs.Common.{◌≡◌, ◌++◌, take}, specs.List.filter_map}
use Rattle.cdm_shift.specs.Warnings.{past}
use Rattle.cdm_shift.proofs.warnings.push_past.Given as goal

abbrev pub invariant-loop-row : goal.invariant-loop-row
invariant-loop-row g l =
    l.found.items ≡ l.initial.found.items ++ filter_map (λ row. past (g.R.Records.day l.records) l.plan row row.status) (take l.row-index l.rows)
