use Rattle.std.proofs.{lemmas.Result.on_ok_weaker, lemmas.Grind.common_steps, Common.arith}
use Rattle.cdm_row.proofs.TokenLemmas.{object_written}
use Rattle.cdm_row.proofs.writing.push_row.Goals as goal

pub returns-clause-tokens : goal.returns-clause-tokens
returns-clause-tokens c = grind (arith, common_steps, on_ok_weaker, object_written)
