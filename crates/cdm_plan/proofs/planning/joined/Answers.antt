use Rattle.cdm_plan.proofs.PartLemmas.{few_joined}
use Rattle.cdm_plan.proofs.planning.joined.Goals as goal

pub invariant_of-result : goal.invariant_of-result
invariant_of-result c =
    let same = rw c.in_ok-append.ensures.items at c.by_name-plans.ensures.same in
    let others = rw c.deref.ensures.value at c.in_ok-blocked.ensures.same in
    rw (c.new.ensures, c.new-2.ensures) (record {
      runway_order = c.by_name-plans.ensures.sorted;
      blocked_order = c.in_ok-blocked.ensures.sorted;
      few = few_joined _ _ _ _ 2000 same others c.requires;
    })
