use Rattle.cdm_shift.proofs.GroupLemmas.{groups_are, groups_one}
use Rattle.cdm_shift.proofs.laws.groups_are_those_of_rows.Goals as goal

pub returns-clause-are : goal.returns-clause-are
returns-clause-are c = groups_are

pub returns-clause-only : goal.returns-clause-only
returns-clause-only c = groups_one
