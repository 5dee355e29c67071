use Rattle.cdm_shift.proofs.StartLemmas.{starting_is, starting_one}
use Rattle.cdm_shift.proofs.laws.start_ups_are_those_ahead.Goals as goal

pub returns-clause-are : goal.returns-clause-are
returns-clause-are c = starting_is

pub returns-clause-only : goal.returns-clause-only
returns-clause-only c = starting_one
