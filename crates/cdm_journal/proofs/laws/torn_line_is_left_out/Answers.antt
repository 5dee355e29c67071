use Rattle.cdm_journal.proofs.WholeLemmas.{is-whole, leaves-torn}
use Rattle.cdm_journal.proofs.laws.torn_line_is_left_out.Goals as goal

pub returns-clause-whole : goal.returns-clause-whole
returns-clause-whole c = is-whole

pub returns-clause-torn : goal.returns-clause-torn
returns-clause-torn c = leaves-torn
