use Rattle.cdm_journal.proofs.ReadLemmas.{adds-line, adds-update}
use Rattle.cdm_journal.proofs.laws.journal_goes_on.Goals as goal

pub returns-clause-line : goal.returns-clause-line
returns-clause-line c = adds-line

pub returns-clause-update : goal.returns-clause-update
returns-clause-update c = adds-update
