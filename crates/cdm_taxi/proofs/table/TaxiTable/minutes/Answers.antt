use Rattle.cdm_taxi.proofs.RowLemmas.{get-rows_of}
use Rattle.cdm_taxi.proofs.table.TaxiTable.minutes.Goals as goal

pub returns : goal.returns
returns c = cc (get-rows_of c.self.inside.minutes (c.args.place, c.args.runway))
