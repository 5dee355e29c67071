use Rattle.cdm_view.proofs.ChangeLemmas.{changes_by_name, changes_permuted}
use Rattle.std.proofs.{Common.arith, lemmas.Grind.common_steps}
use Rattle.cdm_view.proofs.differing.changes_of.Goals as goal

pub returns : goal.returns
returns c = grind (arith, common_steps, changes_permuted, changes_by_name)
