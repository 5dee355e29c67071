use Rattle.cdm_view.proofs.LoadLemmas.{in_one_line}
use Rattle.cdm_view.proofs.laws.each_flight_in_one_line.Goals as goal

pub returns : goal.returns
returns c = in_one_line
