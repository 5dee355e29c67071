use Rattle.cdm_table.proofs.Words.{◌∙◌, ◌++◌, arith, rules, ap, map-id, sym, concat, common_steps}
use Rattle.std.proofs.lemmas.{Iterator.Adapters.YieldsList-from_vec, Iterator.Consumers.YieldsList-end, List.Concat.concat_is}
use Rattle.cdm_table.proofs.answers.push_all.Goals as goal

pub loop-answer-preserved : goal.loop-answer-preserved
loop-answer-preserved c = grind (arith, common_steps, concat_is)

pub returns : goal.returns
returns c =
    let all = YieldsList-from_vec {s = c.into_iter-answer-iterator.result} c.args.answers.items (search rules) (search rules) in
    let seen = YieldsList-end all c.loop-answer.yielded c.loop-answer.answer-iterator c.loop-answer.yielded_by _ c.next.new.self c.in-None.is c.next.ensures.steps in
    c.loop-answer.invariant ∙ ap (λ l. c.args.text.now.items ++ concat l) (sym (map-id _) ∙ seen.0)
