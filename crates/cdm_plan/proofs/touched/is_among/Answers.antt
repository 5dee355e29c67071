use Rattle.std.proofs.{Common.{rules, List, ℕ}, lemmas.Iterator.YieldsList-from_slice, lemmas.Iterator.Search.any_from_yields_List}
use borrow.Author.Tests.{tests}
use Rattle.cdm_plan.proofs.PlanWords.{same_name}
use Rattle.cdm_plan.proofs.touched.is_among.Goals as goal

pub returns : goal.returns
returns c =
    let is = λ (n : List ℕ). same_name n c.args.name in
    any_from_yields_List is _ _ _ c.any.ensures.ran (YieldsList-from_slice c.args.names.now cc) (λ x b q k. search (rules, tests))
