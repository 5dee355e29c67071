use Rattle.cdm_journal.proofs.ReadLemmas.{feed-makes, has-updates, reads-back}
use Rattle.cdm_journal.proofs.laws.journal_is_read_back.Goals as goal

pub returns-clause-feed : goal.returns-clause-feed
returns-clause-feed c = feed-makes

pub returns-clause-records : goal.returns-clause-records
returns-clause-records c = reads-back

pub returns-clause-updates : goal.returns-clause-updates
returns-clause-updates c = has-updates
