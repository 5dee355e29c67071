use Rattle.cdm_day.proofs.CellLemmas.{one_capacity}
use Rattle.cdm_day.proofs.laws.a_cell_has_one_capacity.Goals as goal

pub returns : goal.returns
returns c = one_capacity
