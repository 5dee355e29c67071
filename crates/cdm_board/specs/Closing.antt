-- What closing a board answers.
use Rattle.std.specs.Prelude.{ℕ, List, ◌≡◌}
use Rattle.cdm_plan.specs.Day.{DayRecord}
use Rattle.cdm_board.specs.declared.close.Closed.{Closed}
use Rattle.cdm_board.specs.declared.close.Closed.TheVariants.{MissingDesk, Opening, Mismatch}
use Rattle.cdm_board.specs.History.{Call, DeskRecord, BoardRecord, Opened, AreNumbered, IsMismatch, IsMerge, IsLegal, day_of, journal_of}

-- the state did not begin from what the board was opened with
abbrev pub BeganElsewhere : Opened → BoardRecord → Type 0
BeganElsewhere b s = (s.airport ≡ b.airport) × (s.opening ≡ b.opening) → ⊥

-- the state's history is legal from what the state began with
abbrev pub IsLegalBoard : BoardRecord → Type 0
IsLegalBoard s = IsLegal s.airport s.opening s.history

-- why a board is not closed; all that was handed in comes back
abbrev pub IsCloseFault : Opened → List DeskRecord → Closed → Type 0
IsCloseFault b ks (MissingDesk board desks) = (board ≡ b) × (desks.items ≡ ks) × (AreNumbered b.desks ks → ⊥)
IsCloseFault b ks (Opening state desks) = (desks.items ≡ ks) × AreNumbered b.desks ks × IsLegalBoard state × BeganElsewhere b state
IsCloseFault b ks (Mismatch state desks desk receipt) =
    (desks.items ≡ ks) × AreNumbered b.desks ks × IsLegalBoard state
    × (state.airport ≡ b.airport) × (state.opening ≡ b.opening) × IsMismatch state.history ks desk receipt

-- a closed board: its history is legal from the board's opening and is the merge of the desks, and the
-- day is that of the history
abbrev pub IsClosed : Opened → List DeskRecord → List (ℕ × Call) → DayRecord → Type 0
IsClosed b ks h d = IsLegal b.airport b.opening h × IsMerge h ks × (d ≡ day_of b.airport (journal_of b.airport b.opening h)) × AreNumbered b.desks ks
