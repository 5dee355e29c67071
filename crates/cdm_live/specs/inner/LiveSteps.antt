-- What the steps of a live run answer.
use Rattle.std.specs.Prelude.{◌≡◌, ◌≢◌, ◌+◌, ◌<◌, ◌≤◌, ⊤, ℕ, List, [], ◌++◌, length, flat_map}
use Rattle.cdm_flight.specs.Journal.{AirportRows}
use Rattle.cdm_flight.specs.declared.role.Role.{Role}
use Rattle.cdm_flight.specs.declared.update.Update.{Update}
use Rattle.cdm_sequence.specs.declared.plan.Plan.{Plan}
use Rattle.cdm_report.specs.Report.{report_bytes}
use Rattle.cdm_plan.specs.Day.{DayRecord}
use Rattle.cdm_plan.specs.DayPlan.{IsDayPlan}
use Rattle.cdm_day.specs.declared.reply.Reply.{Reply}
use Rattle.cdm_board.specs.History.{Call, DeskRecord, IsLegal, calls_of, day_of, journal_of}
use Rattle.cdm_board.specs.declared.fault.BoardError.{BoardError}
use Rattle.cdm_board.specs.declared.fault.BoardError.TheVariants as board
use Rattle.cdm_files.specs.CommonFaults.{IsAirportFault}
use Rattle.cdm_files.specs.Refused.{Spelled, own_words, refused_by_replies}
use Rattle.cdm_files.specs.declared.common_fault.CommonFault.TheVariants as common
use Rattle.cdm_live.specs.Live.{IsWorkOf, desk_text, replies_of}
use Rattle.cdm_live.specs.LiveFaults.{FillsBoard, FitsBoard, calls_needed}
use Rattle.cdm_live.specs.declared.live_error.LiveError.{LiveError}
use Rattle.cdm_live.specs.declared.live_error.LiveError.TheVariants as error
use Rattle.cdm_live.specs.declared.live_run.LiveCounts.{LiveCounts}

-- the fault that a refused call of the board is: its history can't be full, nor a batch too long
abbrev pub fault_of_call : BoardError → LiveError
fault_of_call board.Memory = error.Common common.Memory
fault_of_call _ = error.Mismatch

-- why desks that began don't end
abbrev pub IsDeskFault : LiveError → Type 0
IsDeskFault (error.Common common.Memory) = ⊤
IsDeskFault error.Mismatch = ⊤
IsDeskFault fault = ⊥

-- the desk of this number has done the work of the updates, and these are the replies that it was given
pub record HasWorked (number : ℕ) (updates : List (Role × Update)) (desk : DeskRecord) (replies : List Reply) : Type 0 where
  pub is_number : desk.number ≡ number
  pub work : IsWorkOf updates desk.receipts
  pub replied : replies ≡ flat_map replies_of desk.receipts

-- two desks have done the work of these updates, from the airport's day without updates: their history,
-- the day after it, and the replies to each
pub record HasMerged (g : AirportRows) (updates1 updates2 : List (Role × Update)) (h : List (ℕ × Call)) (d : DayRecord) (replies1 replies2 : List Reply) : Type 0 where
  pub legal : IsLegal g [] h
  pub first : IsWorkOf updates1 (calls_of 1 h)
  pub second : IsWorkOf updates2 (calls_of 2 h)
  pub no_other : (k : ℕ) → k ≢ 1 → k ≢ 2 → calls_of k h ≡ []
  pub day : d ≡ day_of g (journal_of g [] h)
  pub replied1 : replies1 ≡ flat_map replies_of (calls_of 1 h)
  pub replied2 : replies2 ≡ flat_map replies_of (calls_of 2 h)

-- why so many updates of two feeds make no report
abbrev pub IsBoardFault : ℕ → ℕ → LiveError → Type 0
IsBoardFault updates1 updates2 error.HistoryFull = 4096 < calls_needed updates1 updates2
IsBoardFault updates1 updates2 (error.Common common.Memory) = ⊤
IsBoardFault updates1 updates2 error.Mismatch = calls_needed updates1 updates2 ≤ 4096
IsBoardFault updates1 updates2 fault = ⊥

-- why the records of whole inputs make no report
abbrev pub IsRecordFault : List ℕ → List ℕ → List ℕ → LiveError → Type 0
IsRecordFault airport feed1 feed2 (error.Common fault) = IsAirportFault airport fault
IsRecordFault airport feed1 feed2 error.HistoryFull = FillsBoard airport feed1 feed2
IsRecordFault airport feed1 feed2 error.Mismatch = FitsBoard airport feed1 feed2

-- the text of a day, without refused records, and of two desks that posted so many batches and were
-- given these replies
pub record IsMergedText (feed1 feed2 : List Spelled) (d : DayRecord) (replies1 replies2 : List Reply) (posts1 posts2 : ℕ) (text : List ℕ) : Type 0 where
  pub plan : Plan
  pub of_day : IsDayPlan d plan
  pub bytes : text
      ≡ report_bytes d.airport.day plan []
      ++ desk_text 1 posts1 (refused_by_replies 1 (own_words feed1) replies1)
      ++ desk_text 2 posts2 (refused_by_replies 1 (own_words feed2) replies2)

-- the counts of such a day, of such desks, and of a history
abbrev pub merged_counts : List Spelled → List Spelled → DayRecord → List (ℕ × Call) → List Reply → List Reply → LiveCounts
merged_counts feed1 feed2 d h replies1 replies2 = record {
  accepted = length d.journal;
  refused = length (refused_by_replies 1 (own_words feed1) replies1) + length (refused_by_replies 1 (own_words feed2) replies2);
  calls = length h;
}
