use Rattle.std.proofs.Common.{arith}
use Rattle.cdm_board.proofs.Boards.{IsBoard-new}
use Rattle.cdm_board.proofs.state.BoardState.new.Goals as goal

pub invariant_of-result : goal.invariant_of-result
invariant_of-result c = rw (c.journal.ensures, c.new.ensures.items) (omega arith, IsBoard-new c.args.day.airport c.args.day.journal)
