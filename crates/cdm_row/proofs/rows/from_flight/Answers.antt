use Rattle.std.proofs.Common.{◌∙◌, ap, drop, rules, tests}
use Rattle.std.proofs.lemmas.Iterator.{YieldsList-from_slice, Consumers.count_from_yields_List, Search.YieldsList-from_take_while}
use Rattle.std.proofs.lemmas.List.{take_rest, Folds.length-prefix_len}
use Rattle.cdm_row.specs.inner.Passed.{is_below}
use Rattle.cdm_row.proofs.rows.from_flight.Goals as goal

pub returns : goal.returns
returns c =
    let all = c.args.rows.now in
    let test = is_below c.args.name in
    let count = count_from_yields_List c.take_while.result _ c.count-below.ensures.ran
    (YieldsList-from_take_while _ test (YieldsList-from_slice all cc) c.take_while.ensures.closure c.take_while.ensures.done
    (λ x b q k. search (rules, tests))) ∙ length-prefix_len test all in
    take_rest all c.count-below.result ∙ ap (λ k. drop k all) count
