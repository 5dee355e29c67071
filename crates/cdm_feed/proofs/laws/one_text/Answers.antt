use Rattle.cdm_feed.proofs.OutputLemmas.{one-output}
use Rattle.cdm_feed.proofs.laws.one_text.Goals as goal

pub returns : goal.returns
returns c = one-output
