use Rattle.cdm_carry.proofs.LawLemmas.{stays_the_same}
use Rattle.cdm_carry.proofs.laws.flights_that_stay_are_the_same.Goals as goal

pub returns : goal.returns
returns c = stays_the_same
