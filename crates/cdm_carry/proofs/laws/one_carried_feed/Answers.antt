use Rattle.cdm_carry.proofs.MadeLemmas.{one_feed}
use Rattle.cdm_carry.proofs.laws.one_carried_feed.Goals as goal

pub returns : goal.returns
returns c = one_feed
