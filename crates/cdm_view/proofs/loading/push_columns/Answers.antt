use Rattle.cdm_report.{specs.Columns.time_column, proofs.Widths.right_number}
use Rattle.cdm_view.{proofs.LoadLemmas.left_number, specs.Load.cell_columns}
use Rattle.std.proofs.{Common.arith, lemmas.Grind.common_steps}
use Rattle.cdm_view.proofs.loading.push_columns.Goals as goal

pub returns : goal.returns
unfolding cell_columns time_column
returns c = grind (arith, common_steps, right_number, left_number)
