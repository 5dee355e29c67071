use Rattle.cdm_view.proofs.{CancelledLemmas.cancelled_same, ChangeLemmas.rests_same}
use Rattle.std.proofs.{Common.arith, lemmas.Grind.common_steps}
use Rattle.cdm_view.proofs.differing.push_cancelled_by.Goals as goal

pub returns-then-not-is_cancel : goal.returns-then-not-is_cancel
returns-then-not-is_cancel c = grind (arith, common_steps, cancelled_same, rests_same)
