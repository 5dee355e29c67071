use Rattle.cdm_taxi.proofs.TaxiLemmas.{get-insert_row}
use Rattle.cdm_taxi.proofs.table.TaxiTable.set.Goals as goal

pub returns-clause-rows : goal.returns-clause-rows
returns-clause-rows c = λ p r.
    rw (c.in_ok-put.ensures.ok) (get-insert_row c.args.self.now c.args.place c.args.runway c.args.minutes p r)
