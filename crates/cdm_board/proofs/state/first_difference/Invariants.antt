use Rattle.std.proofs.Common.{◌≡◌, ◌≤◌, ◌++◌, length, take, drop, map}
use Rattle.cdm_board.specs.{History.calls_of, Receipts.call_of, Receipts.entry_of}
use Rattle.cdm_board.proofs.state.first_difference.Given as goal

abbrev pub invariant-loop-entry : goal.invariant-loop-entry
invariant-loop-entry l =
    (l.next ≤ length l.receipts)
    × (calls_of l.desk (map entry_of l.entries) ≡ take l.next (map call_of l.receipts) ++ calls_of l.desk (map entry_of (drop l.entry-index l.entries)))
