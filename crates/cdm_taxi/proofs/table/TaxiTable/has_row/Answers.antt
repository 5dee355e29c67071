use Rattle.cdm_taxi.proofs.table.TaxiTable.has_row.Goals as goal

pub returns : goal.returns
returns c = cc (c.self.invariant c.args.stand)
