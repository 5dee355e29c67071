-- Calls of a board, legal histories, and when a history is the merge of what the desks hold.
use Rattle.std.specs.Prelude.{ℕ, ◌+◌, ◌≤◌, ◌<◌, ◌==◌, if◌then◌else◌, List, [], ◌∷◌, ◌++◌, take, ◌≡◌, ◌≢◌, count_by, All, map}
use Rattle.std.specs.List.{slice_get, range_with_len}
use Rattle.cdm_flight.specs.declared.role.Role.{Role}
use Rattle.cdm_flight.specs.declared.update.Update.{Update}
use Rattle.cdm_flight.specs.Journal.{AirportRows}
use Rattle.cdm_flight.specs.Accepted.{accepted, replies_to}
use Rattle.cdm_day.specs.declared.reply.Reply.{Reply}
use Rattle.cdm_plan.specs.Day.{DayRecord}
use Rattle.cdm_day.specs.Replies.{reply_of}

-- a call of a desk, with what it was answered: a batch with its replies, or an airport with a journal
pub data Call : Type 0 where
  Posts : List (Role × Update) → List Reply → Call
  Looks : AirportRows → List Update → Call

-- a desk: its number and its calls, the oldest first
pub record DeskRecord : Type 0 where
  pub number : ℕ
  pub receipts : List Call

-- a board's state: the airport and the journal from which it began, and the calls since, each with the
-- number of its desk
pub record BoardRecord : Type 0 where
  pub airport : AirportRows
  pub opening : List Update
  pub history : List (ℕ × Call)

-- a board as it was opened: what its state began from, and how many desks it has
pub record Opened : Type 0 where
  pub airport : AirportRows
  pub opening : List Update
  pub desks : ℕ

-- the replies to a batch
abbrev pub answers_to : AirportRows → List Update → List (Role × Update) → List Reply
answers_to g a batch = map reply_of (replies_to g a batch)

-- the journal after a call
abbrev pub journal_by : AirportRows → List Update → Call → List Update
journal_by g a (Posts batch replies) = accepted g a batch
journal_by g a (Looks airport journal) = a

-- the call was answered as a day of this airport and this journal answers it
abbrev pub IsAnswered : AirportRows → List Update → Call → Type 0
IsAnswered g a (Posts batch replies) = replies ≡ answers_to g a batch
IsAnswered g a (Looks airport journal) = (airport ≡ g) × (journal ≡ a)

-- the journal after a history
unfoldable pub journal_of : AirportRows → List Update → List (ℕ × Call) → List Update
journal_of g a [] = a
journal_of g a (e ∷ es) = journal_of g (journal_by g a e.1) es

-- each call was answered as a day answers it after the calls before it
unfoldable pub IsLegal : AirportRows → List Update → List (ℕ × Call) → Type 0
IsLegal g a [] = Unit {0}
IsLegal g a (e ∷ es) = IsAnswered g a e.1 × IsLegal g (journal_by g a e.1) es

abbrev pub board_of : AirportRows → List Update → List (ℕ × Call) → BoardRecord
board_of g a h = record { airport = g; opening = a; history = h }

-- the journal of a board
abbrev pub journal_now : BoardRecord → List Update
journal_now b = journal_of b.airport b.opening b.history

abbrev pub day_of : AirportRows → List Update → DayRecord
day_of g a = record { airport = g; journal = a }

-- the day of a board
abbrev pub day_now : BoardRecord → DayRecord
day_now b = day_of b.airport (journal_now b)

-- the board after one more call
abbrev pub with_call : BoardRecord → ℕ → Call → BoardRecord
with_call b desk call = board_of b.airport b.opening (b.history ++ (desk, call) ∷ [])

-- the number of a desk
abbrev pub IsDesk : ℕ → Type 0
IsDesk n = (1 ≤ n) × (n ≤ 16)

-- the calls of one desk in a history
abbrev pub calls_of : ℕ → List (ℕ × Call) → List Call
calls_of d [] = []
calls_of d (e ∷ es) = if e.0 == d then e.1 ∷ calls_of d es else calls_of d es

-- the receipts of the desk of this number, which are none where there is no such desk
abbrev pub receipts_of : ℕ → List DeskRecord → List Call
receipts_of d [] = []
receipts_of d (k ∷ ks) = if k.number == d then k.receipts else receipts_of d ks

-- for each number, the history's calls of that desk are the desk's receipts
abbrev pub IsMerge : List (ℕ × Call) → List DeskRecord → Type 0
IsMerge h desks = (d : ℕ) → calls_of d h ≡ receipts_of d desks

-- the first number, from 1, at which two lists differ, where a list that has ended differs from one
-- that goes on
abbrev pub IsFirstDifference : List Call → List Call → ℕ → Type 0
IsFirstDifference xs ys k = (n : ℕ) × (k ≡ n + 1) × (take n xs ≡ take n ys) × (slice_get xs n ≢ slice_get ys n)

-- the least number of a desk whose calls in the history are not its receipts, and the first receipt
-- that differs
abbrev pub IsMismatch : List (ℕ × Call) → List DeskRecord → ℕ → ℕ → Type 0
IsMismatch h desks d k = ((e : ℕ) → e < d → calls_of e h ≡ receipts_of e desks) × IsFirstDifference (calls_of d h) (receipts_of d desks) k

-- the desks' numbers are 1 to n, each once
pub record AreNumbered (n : ℕ) (desks : List DeskRecord) : Type 0 where
  pub in_range : All (λ k. (1 ≤ k.number) × (k.number ≤ n)) desks
  pub once : (d : ℕ) → 1 ≤ d → d ≤ n → count_by (λ k. k.number == d) desks ≡ 1

-- a desk without receipts
abbrev pub fresh_desk : ℕ → DeskRecord
fresh_desk n = record { number = n; receipts = [] }

-- the desks 1 to n without receipts
abbrev pub fresh_desks : ℕ → List DeskRecord
fresh_desks n = map fresh_desk (range_with_len 1 n)

-- the desk after one more call
abbrev pub with_receipt : DeskRecord → Call → DeskRecord
with_receipt k call = record { number = k.number; receipts = k.receipts ++ call ∷ [] }

-- the board that is opened on a day with n desks
abbrev pub opened_of : DayRecord → ℕ → Opened
opened_of d n = record { airport = d.airport; opening = d.journal; desks = n }
