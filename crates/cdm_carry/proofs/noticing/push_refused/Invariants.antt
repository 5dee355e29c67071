use Rattle.std.proofs.Common.{drop}
use Rattle.cdm_carry.proofs.TakingLemmas.{RefusedSoFar}
use Rattle.cdm_carry.proofs.noticing.push_refused.Given as goal

abbrev pub invariant-loop-item : goal.invariant-loop-item
invariant-loop-item l = RefusedSoFar l.fn.next l.fn.notices.items l.records l.next l.notices.items (drop l.item-index l.records)
