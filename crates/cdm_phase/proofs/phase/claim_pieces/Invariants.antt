use Rattle.std.proofs.Common.{All}
use Rattle.cdm_phase.specs.Piece.{IsPieceOf}
use Rattle.cdm_phase.proofs.phase.claim_pieces.Given as goal

abbrev pub invariant-loop : goal.invariant-loop
invariant-loop g l =
    All (IsPieceOf (g.J.Job.gives l.work.job.now) l.work.items.now l.work.grain) l.pieces.items
