use Rattle.std.proofs.lemmas.Slice.Eq.{slice_eq-Decides}
use Rattle.cdm_board.proofs.UpdateLemmas.{same_pair, pair-Decides}
use Rattle.cdm_board.proofs.receipt.is_same_batch.Goals as goal

pub returns : goal.returns
returns c = slice_eq-Decides {E = same_pair} pair-Decides _ _ _ c.eq.ensures
