use Rattle.std.proofs.lemmas.Slice.Eq.{slice_eq-Decides}
use Rattle.cdm_flight.proofs.UpdateLemmas.{update_eq-Decides}
use Rattle.cdm_board.proofs.receipt.is_same_journal.Goals as goal

pub returns : goal.returns
returns c = slice_eq-Decides update_eq-Decides _ _ _ c.eq.ensures
