use Rattle.cdm_check.proofs.NoFeedLemmas.{no_feed}
use Rattle.cdm_check.proofs.laws.no_feed_is_refused.Goals as goal

pub returns : goal.returns
returns c = no_feed
