use Rattle.cdm_sequence.proofs.OneLemmas.{reordered}
use Rattle.cdm_sequence.proofs.laws.any_order.Goals as goal

pub returns : goal.returns
returns c = reordered
