use Rattle.cdm_serve.proofs.Lives.{life_is_kept}
use Rattle.cdm_serve.proofs.laws.served_journal_is_kept.Goals as goal

pub returns : goal.returns
returns c = life_is_kept
