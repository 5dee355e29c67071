use Rattle.std.proofs.Common.{drop}
use Rattle.cdm_carry.proofs.TakingLemmas.{TakenSoFar}
use Rattle.cdm_carry.proofs.taking.take_records.Given as goal

abbrev pub invariant-loop-record : goal.invariant-loop-record
invariant-loop-record l = TakenSoFar l.fn.day l.records l.day l.taken.items (drop l.record-index l.records)
