use Rattle.cdm_journal.proofs.LengthLemmas.{is-short}
use Rattle.cdm_journal.proofs.laws.journal_stays_short.Goals as goal

pub returns : goal.returns
returns c = is-short
