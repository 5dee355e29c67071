use Rattle.cdm_sequence.proofs.OneLemmas.{sequence_one}
use Rattle.cdm_sequence.proofs.laws.one_sequence.Goals as goal

pub returns : goal.returns
returns c = sequence_one
