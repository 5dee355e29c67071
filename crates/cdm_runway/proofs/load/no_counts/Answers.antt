use Rattle.std.proofs.lemmas.List.{get_or-replicate}
use Rattle.cdm_runway.proofs.load.no_counts.Goals as goal

pub returns : goal.returns
returns c = λ k below. get_or-replicate 2880 k 0 0 below
