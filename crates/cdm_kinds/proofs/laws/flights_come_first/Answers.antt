use Rattle.cdm_kinds.proofs.KindLemmas.{flight_first}
use Rattle.cdm_kinds.proofs.laws.flights_come_first.Goals as goal

pub returns : goal.returns
returns c = flight_first
