use Rattle.cdm_change.proofs.UnnoticedLemmas.{nobody_notices}
use Rattle.cdm_change.proofs.laws.nobody_notices.Goals as goal

pub returns : goal.returns
returns c = nobody_notices
