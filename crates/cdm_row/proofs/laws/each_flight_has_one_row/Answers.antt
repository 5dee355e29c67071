use Rattle.cdm_row.proofs.RowLemmas.{one_row}
use Rattle.cdm_row.proofs.laws.each_flight_has_one_row.Goals as goal

pub returns : goal.returns
returns c = λ d plan rows are. one_row d plan rows are
