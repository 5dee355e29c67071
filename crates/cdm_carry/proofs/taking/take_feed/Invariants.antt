use Rattle.std.proofs.Common.{◌+◌, drop}
use Rattle.cdm_carry.proofs.TakingLemmas.{NumberedSoFar}
use Rattle.cdm_carry.proofs.taking.take_feed.Given as goal

abbrev pub invariant-loop-place : goal.invariant-loop-place
invariant-loop-place l = NumberedSoFar l.fn.day l.records l.day l.taken.items (l.place + 1) (drop l.place l.records)
