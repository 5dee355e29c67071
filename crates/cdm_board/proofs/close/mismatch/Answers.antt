use Rattle.std.proofs.Common.{arith}
use Rattle.cdm_board.proofs.Desks.{merge-all}
use Rattle.cdm_board.proofs.close.mismatch.Goals as goal

pub returns : goal.returns
returns c =
    merge-all c.args.most _ _ c.requires.most c.calls-calls.ensures.desks c.requires.desks (λ e lt. c.loop-desk.invariant e (omega arith))
