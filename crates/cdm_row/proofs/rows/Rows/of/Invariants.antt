use Rattle.std.{proofs.Common.◌≡◌, proofs.Common.take, specs.List.filter_map}
use Rattle.cdm_row.specs.Rows.{standing_row}
use Rattle.cdm_row.proofs.rows.Rows.of.Given as goal

abbrev pub invariant-loop-standing : goal.invariant-loop-standing
invariant-loop-standing g l = l.items.items ≡ filter_map (standing_row (g.R.Records.day l.records)) (take l.standing-index l.standing-items)
