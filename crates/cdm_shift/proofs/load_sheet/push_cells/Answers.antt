use Rattle.std.proofs.{Common.arith, lemmas.Grind.common_steps}
use Rattle.cdm_view.proofs.RangeLemmas.{numbers_more}
use Rattle.cdm_shift.proofs.load_sheet.push_cells.Goals as goal

pub loop-cell-preserved : goal.loop-cell-preserved
loop-cell-preserved c = grind (arith, common_steps, numbers_more)

pub returns : goal.returns
returns c = grind (arith, common_steps)
