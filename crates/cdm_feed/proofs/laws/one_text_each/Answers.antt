use Rattle.cdm_feed.proofs.OutputLemmas.{one-each}
use Rattle.cdm_feed.proofs.laws.one_text_each.Goals as goal

pub returns : goal.returns
returns c = one-each
