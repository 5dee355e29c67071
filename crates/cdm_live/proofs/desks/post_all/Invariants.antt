use Rattle.std.{proofs.Common.{◌≡◌, flat_map}, specs.Slice.Iter.{chunks_rest, chunks_size}}
use Rattle.cdm_live.{specs.Live.replies_of, proofs.BatchLemmas.ArePosted}
use Rattle.cdm_live.proofs.desks.post_all.Given as goal

abbrev pub invariant-loop-batch : goal.invariant-loop-batch
invariant-loop-batch g l = record {
  can_next : (goal.iterator-loop-batch g).can_next l.batch-iterator;
  is_finite : (goal.iterator-loop-batch g).is_finite l.batch-iterator;
  size : chunks_size l.batch-iterator ≡ 256;
  posted : ArePosted l.updates (chunks_rest l.batch-iterator) l.desk.receipts;
  replied : l.replies.items ≡ flat_map replies_of l.desk.receipts;
  number : l.desk.number ≡ l.fn.desk.number;
}
