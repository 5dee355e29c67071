use Rattle.std.proofs.Common.{arith, rules}
use Rattle.std.proofs.lemmas.{Grind.common_steps, List.Elements.filter_map-append}
use Rattle.cdm_carry.proofs.TakingLemmas.{short_numbered}
use Rattle.cdm_carry.proofs.noticing.carried_numbered.Goals as goal
use Rattle.cdm_carry.proofs.noticing.carried_numbered.Goals.{then-goes_on+in_ok-push_last, else-goes_on}

pub loop-item-preserved : goal.loop-item-preserved
loop-item-preserved c = elim c.if-goes_on.branch [
  | then-goes_on+in_ok-push_last w ↦ record { value = grind (arith, common_steps, filter_map-append); short = search (rules, short_numbered) }
  | else-goes_on w ↦ record { value = grind (arith, common_steps, filter_map-append); short = search rules }
]
