use Rattle.std.proofs.{Common.{◌∙◌, ◌≤◌, ℕ, List, Option, length, subst, sym, rules, tests}, lemmas.Iterator.YieldsList-from_slice}
use Rattle.std.proofs.lemmas.Iterator.{Consumers.count_from_yields_List, Search.YieldsList-from_take_while}
use Rattle.std.proofs.lemmas.List.{Folds.length-prefix_len, Sums.prefix_len-le-length}
use Rattle.cdm_shift.specs.Costs.{group_before}
use Rattle.cdm_shift.proofs.costs.place_of.Goals as goal

pub returns-clause-value : goal.returns-clause-value
returns-clause-value c =
    let all = c.args.groups.now in
    let test = λ (h : Option (List ℕ)). group_before h c.args.group.now in
    count_from_yields_List c.take_while.result _ c.count.ensures.ran
    (YieldsList-from_take_while _ test (YieldsList-from_slice all (cc)) c.take_while.ensures.closure c.take_while.ensures.done (λ x b q k. search (rules, tests)))
    ∙ length-prefix_len test all

pub returns-clause-within : goal.returns-clause-within
returns-clause-within c =
    let all = c.args.groups.now in
    let test = λ (h : Option (List ℕ)). group_before h c.args.group.now in
    subst (λ n. n ≤ length all) (sym (returns-clause-value c)) (prefix_len-le-length test all)
