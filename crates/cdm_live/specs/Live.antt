-- What a live run writes: the text of a history that two desks make.
use Rattle.std.specs.Prelude.{◌≡◌, ◌≢◌, ◌+◌, ℕ, List, [], ◌∷◌, ◌++◌, length, map, flat_map, codes, Ok}
use Rattle.std.specs.Fmt.{decimal}
use Rattle.std.specs.Fork.{slice_chunk}
use Rattle.std.specs.Int.{div_ceil}
use Rattle.std.specs.List.{AllZip, concat, range_with_len}
use Rattle.cdm_flight.specs.Journal.{AirportRows}
use Rattle.cdm_flight.specs.declared.role.Role.{Role}
use Rattle.cdm_flight.specs.declared.update.Update.{Update}
use Rattle.cdm_flight.specs.declared.word.RefusalWord.{RefusalWord}
use Rattle.cdm_sequence.specs.declared.plan.Plan.{Plan}
use Rattle.cdm_report.specs.Report.{line_end, refused_line, report_bytes}
use Rattle.cdm_plan.specs.DayPlan.{IsDayPlan}
use Rattle.cdm_day.specs.declared.reply.Reply.{Reply}
use Rattle.cdm_board.specs.History.{Call, Posts, Looks, IsLegal, calls_of, day_of, journal_of}
use Rattle.cdm_files.specs.AirportFile.{airport_in}
use Rattle.cdm_files.specs.FeedDay.{spelled_in}
use Rattle.cdm_files.specs.Refused.{Spelled, own_words, refused_by_replies, updates_in}
use Rattle.cdm_live.specs.declared.live_run.LiveCounts.{LiveCounts}

-- What a desk does.

-- how many batches so many updates make
abbrev pub batch_count : ℕ → ℕ
batch_count n = div_ceil n 256

-- updates in batches of 256, of which the last may have fewer
unfoldable pub batches : List (Role × Update) → List (List (Role × Update))
batches updates = map (slice_chunk updates 256) (range_with_len 0 (batch_count (length updates)))

-- the call posts this batch, whatever it was answered
abbrev pub IsPostOf : List (Role × Update) → Call → Type 0
IsPostOf batch call = (replies : List Reply) × (call ≡ Posts batch replies)

-- the calls are the posts of the updates' batches, in order, and then one look
pub record IsWorkOf (updates : List (Role × Update)) (calls : List Call) : Type 0 where
  pub posts : List Call
  pub of_batches : AllZip IsPostOf (batches updates) posts
  pub airport : AirportRows
  pub journal : List Update
  pub all : calls ≡ posts ++ Looks airport journal ∷ []

-- the history is legal from the airport's day without updates; desk 1 posts what the records of the first
-- feed spell, and looks, desk 2 those of the second, and no other desk has a call
pub record IsLiveHistory (g : AirportRows) (feed1 feed2 : List Spelled) (h : List (ℕ × Call)) : Type 0 where
  pub legal : IsLegal g [] h
  pub first : IsWorkOf (updates_in feed1) (calls_of 1 h)
  pub second : IsWorkOf (updates_in feed2) (calls_of 2 h)
  pub no_other : (d : ℕ) → d ≢ 1 → d ≢ 2 → calls_of d h ≡ []

-- What is told of a desk.

-- the replies that calls were answered
abbrev pub replies_of : Call → List Reply
replies_of (Posts batch replies) = replies
replies_of (Looks airport journal) = []

-- the refused records of the feed of this desk
abbrev pub refused_at : List Spelled → ℕ → List (ℕ × Call) → List (ℕ × RefusalWord)
refused_at feed desk h = refused_by_replies 1 (own_words feed) (flat_map replies_of (calls_of desk h))

-- a desk's line: its number, how many batches it posted, and how many records of its feed are refused
unfoldable pub desk_line : ℕ → ℕ → ℕ → List ℕ
desk_line desk posts refused = concat (
    codes "DESK " ∷ decimal desk ∷ codes " POSTS " ∷ decimal posts ∷ codes " REFUSED " ∷ decimal refused ∷ line_end ∷ [])

-- a desk's line, and its refused records
unfoldable pub desk_text : ℕ → ℕ → List (ℕ × RefusalWord) → List ℕ
desk_text desk posts refused = desk_line desk posts (length refused) ++ flat_map refused_line refused

-- the text of a desk and its feed
abbrev pub text_at : List Spelled → ℕ → List (ℕ × Call) → List ℕ
text_at feed desk h = desk_text desk (batch_count (length (updates_in feed))) (refused_at feed desk h)

-- The text.

-- the text is the report of the day after the history, without refused records, and then what is told
-- of desk 1 and of desk 2
pub record IsTextOf (g : AirportRows) (feed1 feed2 : List Spelled) (h : List (ℕ × Call)) (text : List ℕ) : Type 0 where
  pub plan : Plan
  pub of_day : IsDayPlan (day_of g (journal_of g [] h)) plan
  pub bytes : text ≡ report_bytes g.day plan [] ++ text_at feed1 1 h ++ text_at feed2 2 h

-- the counts of a history: the accepted updates, the refused records of both feeds, and the calls
abbrev pub counts_in : AirportRows → List Spelled → List Spelled → List (ℕ × Call) → LiveCounts
counts_in g feed1 feed2 h = record {
  accepted = length (journal_of g [] h);
  refused = length (refused_at feed1 1 h) + length (refused_at feed2 2 h);
  calls = length h;
}

-- the text is that of a history that two desks can make of what their feeds spell, and the counts are those of it
pub record IsCountedText (g : AirportRows) (feed1 feed2 : List Spelled) (text : List ℕ) (counts : LiveCounts) : Type 0 where
  pub history : List (ℕ × Call)
  pub of_desks : IsLiveHistory g feed1 feed2 history
  pub of_history : IsTextOf g feed1 feed2 history text
  pub of_counts : counts ≡ counts_in g feed1 feed2 history

-- the text may be written for the bytes of an airport file and of two feeds, and these are its counts
abbrev pub IsCounted : List ℕ → List ℕ → List ℕ → List ℕ → LiveCounts → Type 0
IsCounted airport feed1 feed2 text counts =
    (g : AirportRows) × (airport_in airport ≡ Ok g)
    × IsCountedText g (spelled_in g feed1) (spelled_in g feed2) text counts

-- the text may be written for those bytes
abbrev pub IsLive : List ℕ → List ℕ → List ℕ → List ℕ → Type 0
IsLive airport feed1 feed2 text = (counts : LiveCounts) × IsCounted airport feed1 feed2 text counts
