use Rattle.std.proofs.{lemmas.Slice.Eq.slice_eq-Decides, lemmas.Grind.common_steps, Common.arith}
use Rattle.cdm_view.proofs.reason.are_same_names.Goals as goal

pub returns : goal.returns
returns c = grind (arith, common_steps, slice_eq-Decides)
