use Rattle.std.proofs.Common.{◌∙◌, ap, drop, rules, tests}
use Rattle.std.proofs.lemmas.Iterator.{YieldsList-from_slice, Consumers.count_from_yields_List, Search.YieldsList-from_take_while}
use Rattle.std.proofs.lemmas.List.{take_rest, Folds.length-prefix_len}
use Rattle.cdm_view.specs.inner.Earlier.{is_passed}
use Rattle.cdm_view.proofs.waiting.Waiting.not_passed.Goals as goal

pub returns : goal.returns
returns c =
    let all = c.args.slots.now in
    let test = is_passed c.args.self.now c.args.minute in
    let count = count_from_yields_List c.take_while.result _ c.count-passed.ensures.ran
    (YieldsList-from_take_while _ test (YieldsList-from_slice all cc) c.take_while.ensures.closure c.take_while.ensures.done
    (λ x b q k. search (rules, tests))) ∙ length-prefix_len test all in
    take_rest all c.count-passed.result ∙ ap (λ k. drop k all) count
