use Rattle.std.proofs.Common.{sym}
use Rattle.cdm_taxi.proofs.StandLemmas.{has_row-empty}
use Rattle.cdm_taxi.proofs.table.TaxiTable.empty.Goals as goal

pub invariant_of-result : goal.invariant_of-result
invariant_of-result c = λ stand. rw (c.new.ensures.empty, c.new-2.ensures.empty) (sym (has_row-empty stand))
