-- What happens while a day is served.
use Rattle.std.specs.Prelude.{◌≡◌, ◌⊎◌, ⊤, ℕ, ◌+◌, Bool, true, false, List, [], ◌∷◌, ◌++◌, codes, drop, length, Option, None, Some}
use Rattle.std.specs.Fmt.{decimal}
use Rattle.std.specs.List.{concat}
use Rattle.cdm_desk.specs.Replies.{word_for}
use Rattle.cdm_files.specs.FeedDay.{day_in, refusals_in}
use Rattle.cdm_files.specs.Records.{records_of}
use Rattle.cdm_flight.specs.Journal.{AirportRows}
use Rattle.cdm_journal.specs.Journal.{journal_line, journal_text, whole_lines}
use Rattle.cdm_journal.specs.Lines.{LineRecord}
use Rattle.cdm_journal.specs.Lines.LineRecord.{Blank, One, Several}
use Rattle.cdm_json.specs.Lines.{json_line}
use Rattle.cdm_kinds.specs.declared.format.Format.{Format}
use Rattle.cdm_kinds.specs.declared.format.Format.TheVariants.{Json, Text}
use Rattle.cdm_plan.specs.Day.{DayRecord}
use Rattle.cdm_port.specs.Event.{Event}
use Rattle.cdm_port.specs.Event.Event.{Appended, Broken, End, Flushed, LeftOut, Line, Marked, Read, Renamed, Replied, Synced}
use Rattle.cdm_port.specs.Heard.{IsLine}
use Rattle.cdm_port.specs.Stop.{IsStopOf}
use Rattle.cdm_report.specs.Report.{line_end}
use Rattle.cdm_row.specs.Json.{count_json, object_of}
use Rattle.cdm_serve.specs.Asked.{IsAnswerText}
use Rattle.cdm_serve.specs.Posted.{IsRecordText}
use Rattle.cdm_serve.specs.Refused.{IsToldBy, word_asked}
use Rattle.cdm_serve.specs.Requests.{request_of}
use Rattle.cdm_serve.specs.Taken.{TakenRecord, after, record_heard, taken}
use Rattle.cdm_serve.specs.declared.form.ReplyForm.{ReplyForm}
use Rattle.cdm_serve.specs.declared.request.Request.{Request}
use Rattle.cdm_serve.specs.declared.request.Request.TheVariants.{Ask, Nothing, Post}

-- One line.

-- a line of the input that was heard: its bytes, or none where it was passed over
abbrev pub said : Option (List ℕ) → Event
said (Some line) = Line line
said None = Broken

-- a record that is accepted is on the disk before its reply is begun; whatever else is replied to leaves the journal alone
abbrev pub told_of : Option TakenRecord → List ℕ → List Event
told_of None reply = Replied reply ∷ Flushed ∷ []
told_of (Some one) reply = Appended (journal_line one.fields) ∷ Synced ∷ Replied reply ∷ Flushed ∷ []

-- what happens where this is the reply to what a line says; a blank line has none
abbrev pub answered : DayRecord → LineRecord → List ℕ → List Event
answered d Blank reply = []
answered d (One fields) reply = told_of (taken d (One fields)) reply
answered d Several reply = told_of (taken d Several) reply

-- the text replies to a request of this number; where sentences are told, one that a word refuses is replied to with a sentence
abbrev pub IsReplyTo : ReplyForm → DayRecord → ℕ → Request → List ℕ → Type 0
IsReplyTo form d number Nothing text = ⊤
IsReplyTo form d number (Ask asked) text = IsToldBy (word_asked d asked) form.sentences form.format number (IsAnswerText form.format d number asked) text
IsReplyTo form d number (Post spelled) text = IsToldBy (word_for d spelled) form.sentences form.format number (IsRecordText form.format d number spelled) text

-- records and questions are numbered together, blank lines aren't
abbrev pub numbered : ℕ → LineRecord → ℕ
numbered number Blank = number
numbered number (One fields) = number + 1
numbered number Several = number + 1

-- what the input says next: a line, which has no line feed and isn't too long, or none that can be read, or the end
abbrev pub IsHeard : Event → Type 0
IsHeard End = ⊤
IsHeard Broken = ⊤
IsHeard (Line line) = IsLine line
IsHeard other = ⊥

-- Many lines.

-- a line of the input that was heard, and the text that replies to it
pub record Exchange : Type 0 where
  pub heard : Option (List ℕ)
  pub reply : List ℕ

-- what the line says
abbrev pub line_of : Exchange → LineRecord
line_of x = record_heard x.heard

-- a line is replied to, where so many records and questions were numbered before
abbrev pub IsExchange : ReplyForm → DayRecord → ℕ → Exchange → Type 0
IsExchange form d number x = IsHeard (said x.heard) × IsReplyTo form d (numbered number (line_of x)) (request_of d.airport.day (line_of x)) x.reply

-- the replies are those of the day, line after line
abbrev pub AreReplies : ReplyForm → DayRecord → ℕ → List Exchange → Type 0
AreReplies form d number [] = ⊤
AreReplies form d number (x ∷ later) = IsExchange form d number x × AreReplies form (after d (line_of x)) (numbered number (line_of x)) later

-- what happens for these lines
abbrev pub served : DayRecord → List Exchange → List Event
served d [] = []
served d (x ∷ later) = said x.heard ∷ (answered d (line_of x) x.reply ++ served (after d (line_of x)) later)

-- The start.

-- what a start takes of a journal: its whole lines where it was served before, since a stop may have torn its last line, and else all
abbrev pub start_text : Bool → List ℕ → List ℕ
start_text true bytes = whole_lines bytes
start_text false bytes = bytes

-- a last line that is left out is told
abbrev pub left_out : List ℕ → List Event
left_out [] = []
left_out (byte ∷ bytes) = LeftOut (byte ∷ bytes) ∷ []

-- the journal was read, and what of it isn't taken was told
abbrev pub reading : Bool → List ℕ → List Event
reading marked bytes = Read bytes ∷ left_out (drop (length (start_text marked bytes)) bytes)

-- how many updates the day has at the start
abbrev pub ready_text : Format → ℕ → List ℕ
ready_text Text count = concat (codes "READY " ∷ decimal count ∷ line_end ∷ [])
ready_text Json count = json_line (object_of ((codes "ready", count_json count) ∷ []))

-- the journal's own lines are on the disk in its place, and it is marked, before the day is told to be ready
abbrev pub begun : List ℕ → List ℕ → List Event
begun lines ready = Renamed lines ∷ Synced ∷ Marked ∷ Replied ready ∷ Flushed ∷ []

-- the day that the airport and a journal make
abbrev pub day_of : AirportRows → Bool → List ℕ → DayRecord
day_of g marked bytes = day_in g (start_text marked bytes)

-- what happens at the start, by the mark and the bytes of the journal
abbrev pub started : Format → AirportRows → Bool → List ℕ → List Event
started format g marked bytes = reading marked bytes ++ begun (journal_text (records_of (start_text marked bytes))) (ready_text format (length (day_of g marked bytes).journal))

-- A run.

-- a journal without a refused record is served, line after line, until this is heard
pub record IsServed (form : ReplyForm) (g : AirportRows) (marked : Bool) (bytes : List ℕ) (next : Event) (whole : List Event) : Type 0 where
  pub accepted : refusals_in g (start_text marked bytes) ≡ []
  pub exchanges : List Exchange
  pub replies : AreReplies form (day_of g marked bytes) 0 exchanges
  pub events : whole ≡ started form.format g marked bytes ++ (served (day_of g marked bytes) exchanges ++ next ∷ [])

-- what has happened is a part of what is to happen: of reading a journal, or of serving it until something is heard
abbrev pub IsStopped : ReplyForm → AirportRows → Bool → List Event → Type 0
IsStopped form g marked done = ((bytes : List ℕ) × IsStopOf done (reading marked bytes))
    ⊎ ((bytes : List ℕ) × (next : Event) × (whole : List Event) × IsHeard next × IsServed form g marked bytes next whole × IsStopOf done whole)
