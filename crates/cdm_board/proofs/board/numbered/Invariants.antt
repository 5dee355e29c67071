use Rattle.std.proofs.Common.{◌≡◌}
use Rattle.cdm_board.specs.History.{fresh_desks}
use Rattle.cdm_board.proofs.board.numbered.Given as goal

abbrev pub invariant-loop-before : goal.invariant-loop-before
invariant-loop-before l = l.all.items ≡ fresh_desks l.before
