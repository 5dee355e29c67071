use Rattle.std.{proofs.Common.{◌≡◌, vec_len}, specs.Vec.Iter.into_iter_items}
use Rattle.cdm_phase.proofs.Slots.{ArePut}
use Rattle.cdm_phase.proofs.assembly.slots_of.Given as goal

abbrev pub invariant-loop-piece : goal.invariant-loop-piece
invariant-loop-piece g l = record {
  len : vec_len l.slots ≡ l.count;
  put : ArePut l.fn.pieces.items l.count l.slots.items (into_iter_items l.piece-iterator);
}
