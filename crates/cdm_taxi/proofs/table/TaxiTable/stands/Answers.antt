use Rattle.std.proofs.Common.{sym, ◌∙◌}
use Rattle.cdm_taxi.proofs.StandLemmas.{length-stands}
use Rattle.cdm_taxi.proofs.table.TaxiTable.stands.Goals as goal

pub returns : goal.returns
returns c = rw (sym c.self.view_is) (c.len.ensures.len ∙ length-stands _ c.self.inside.stands c.self.invariant c.len.ensures.ordered)
