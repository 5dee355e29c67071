-- Receipts and entries, as the calls of a history, and what a board keeps.
use Rattle.std.specs.Prelude.{ℕ, ◌≤◌, List, length, ◌≡◌, All}
use Rattle.std.specs.Arc.{arc_value}
use Rattle.cdm_flight.specs.declared.update.Update.{Update}
use Rattle.cdm_flight.specs.Journal.{AirportRows}
use Rattle.cdm_board.specs.declared.receipt.Receipt.{Receipt}
use Rattle.cdm_board.specs.declared.receipt.Receipt.TheVariants.{Posted, Looked}
use Rattle.cdm_board.specs.declared.receipt.Entry.{Entry}
use Rattle.cdm_board.specs.History.{Call, Posts, Looks, IsLegal, IsDesk, journal_of}

-- the call that a receipt is of
abbrev pub call_of : Receipt → Call
call_of (Posted batch replies) = Posts batch.items replies.items
call_of (Looked airport journal) = Looks (arc_value airport) (arc_value journal).items

abbrev pub entry_of : Entry → ℕ × Call
entry_of e = (e.desk, call_of e.receipt)

-- the history is legal from its opening, the journal is that of the history, and it has at most 4,096
-- calls, of the desks 1 to 16
pub record IsBoard (g : AirportRows) (opening : List Update) (h : List (ℕ × Call)) (journal : List Update) : Type 0 where
  pub legal : IsLegal g opening h
  pub journal_is : journal ≡ journal_of g opening h
  pub desks : All (λ e. IsDesk e.0) h
  pub short : length h ≤ 4096
