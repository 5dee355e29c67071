use Rattle.std.proofs.Common.{◌≡◌, drop}
use Rattle.cdm_board.specs.History.{receipts_of}
use Rattle.cdm_board.proofs.close.place_of.Given as goal

abbrev pub invariant-loop-desk : goal.invariant-loop-desk
invariant-loop-desk l = receipts_of l.number (drop l.desk-index l.desks) ≡ receipts_of l.number l.desks
