use Rattle.std.proofs.Common.{◌≡◌, ◌<◌, ℕ}
use Rattle.cdm_board.specs.History.{calls_of, receipts_of}
use Rattle.cdm_board.proofs.close.mismatch.Given as goal

abbrev pub invariant-loop-desk : goal.invariant-loop-desk
invariant-loop-desk l = (e : ℕ) → e < l.desk → calls_of e l.state.history ≡ receipts_of e l.desks
