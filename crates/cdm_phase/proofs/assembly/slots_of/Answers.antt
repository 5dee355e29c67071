use Rattle.cdm_phase.proofs.Slots.{ArePut-none, ArePut-more}
use Rattle.cdm_phase.proofs.assembly.slots_of.Goals as goal

pub loop-piece-init : goal.loop-piece-init
loop-piece-init g c = record {
  len = c.in_ok-slots.ensures.len;
  put = ArePut-none c.args.pieces.items c.args.count c.in_ok-slots.slots.items _ c.in_ok-slots.ensures.empty
      c.into_iter-piece-iterator.ensures.into_iter_gives.0 c.requires;
}

pub loop-piece-preserved-in-Some : goal.loop-piece-preserved-in-Some
loop-piece-preserved-in-Some g c = record {
  len = c.loop-piece.invariant.len;
  put = ArePut-more c.args.pieces.items c.args.count c.loop-piece.slots.items c.in-Some.piece _ _ c.in-Some.ensures.steps.0 c.loop-piece.invariant.put;
}

pub loop-piece-preserved : goal.loop-piece-preserved
loop-piece-preserved g c = record {
  len = c.loop-piece.invariant.len;
  put = ArePut-more c.args.pieces.items c.args.count c.loop-piece.slots.items c.in-Some.piece _ _ c.in-Some.ensures.steps.0 c.loop-piece.invariant.put;
}
