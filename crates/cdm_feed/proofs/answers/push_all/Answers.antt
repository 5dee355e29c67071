use Rattle.std.proofs.{Common.arith, lemmas.Grind.common_steps, lemmas.List.Concat.concat_is}
use Rattle.cdm_feed.proofs.answers.push_all.Goals as goal

pub loop-answer-preserved : goal.loop-answer-preserved
loop-answer-preserved c = grind (arith, common_steps, concat_is)
