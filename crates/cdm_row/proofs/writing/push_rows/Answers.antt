use Rattle.std.proofs.{Common.arith, lemmas.Result.on_ok_weaker, lemmas.Grind.common_steps}
use Rattle.cdm_row.proofs.TokenLemmas.{array_written}
use Rattle.cdm_row.proofs.writing.push_rows.Goals as goal

pub returns-clause-tokens : goal.returns-clause-tokens
returns-clause-tokens c = grind (arith, common_steps, on_ok_weaker, array_written)
