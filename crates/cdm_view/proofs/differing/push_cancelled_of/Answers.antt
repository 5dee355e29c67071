use Rattle.cdm_view.proofs.ChangeLemmas.{rests_more}
use Rattle.std.proofs.{Common.arith, lemmas.Grind.common_steps}
use Rattle.cdm_view.proofs.differing.push_cancelled_of.Goals as goal

pub returns-clause-pushed : goal.returns-clause-pushed
returns-clause-pushed g c = grind (arith, common_steps, rests_more)
