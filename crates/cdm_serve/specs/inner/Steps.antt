-- What the steps of a served day leave.
use Rattle.std.specs.Prelude.{◌≡◌, ◌⊎◌, ◌+◌, ◌≤◌, ◌^◌, ⊤, ℕ, Bool, count_by, List, [], ◌∷◌, ◌++◌, Option, None, Some}
use Rattle.cdm_files.specs.declared.common_fault.CommonFault.TheVariants as common
use Rattle.cdm_files.specs.declared.file_fault.FileFault.{FileFault}
use Rattle.cdm_files.specs.declared.file_fault.FileFault.TheVariants as file
use Rattle.cdm_files.specs.FeedDay.{refusals_in}
use Rattle.cdm_flight.specs.Journal.{AirportRows}
use Rattle.cdm_flight.specs.declared.word.RefusalWord.{RefusalWord}
use Rattle.cdm_journal.specs.Lines.{LineRecord, read_as}
use Rattle.cdm_journal.specs.declared.lines.LineRead.{LineRead}
use Rattle.cdm_kinds.specs.declared.format.Format.{Format}
use Rattle.cdm_port.specs.Event.{Event}
use Rattle.cdm_port.specs.Event.Event.{Appended, End, Flushed, Replied, Synced}
use Rattle.cdm_port.specs.Stop.{Stops}
use Rattle.cdm_serve.specs.Faults.{IsFaultOf, is_line}
use Rattle.cdm_serve.specs.Served.{AreReplies, Exchange, IsHeard, day_of, reading, said, served, start_text, started}
use Rattle.cdm_serve.specs.Taken.{record_heard}
use Rattle.cdm_plan.specs.Day.{DayRecord}
use Rattle.cdm_serve.specs.declared.answering.Answer.{Answer}
use Rattle.cdm_serve.specs.declared.answering.Answer.TheVariants as answer
use Rattle.cdm_serve.specs.declared.fault.ServeError.{ServeError}
use Rattle.cdm_serve.specs.declared.fault.ServeError.TheVariants as error
use Rattle.cdm_serve.specs.declared.form.ReplyForm.{ReplyForm}

-- a journal that makes no day, as the error of a served day
abbrev pub error_of : FileFault → ServeError
error_of (file.Refused number word) = error.Journal number word
error_of file.Memory = error.Common common.Memory

-- the text of an answer
abbrev pub text_of : Answer → List ℕ
text_of answer.Nothing = []
text_of (answer.Reply text) = text.items
text_of (answer.Record line text) = text.items

-- what happens where an answer is given
abbrev pub events_of : Answer → List Event
events_of answer.Nothing = []
events_of (answer.Reply text) = Replied text.items ∷ Flushed ∷ []
events_of (answer.Record line text) = Appended line.items ∷ Synced ∷ Replied text.items ∷ Flushed ∷ []

-- a line was heard
abbrev pub HearsLine : List Event → List Event → LineRecord → Type 0
HearsLine old new line = (heard : Option (List ℕ)) × IsHeard (said heard) × (line ≡ record_heard heard) × (new ≡ old ++ said heard ∷ [])

-- a line was heard, or the end
abbrev pub Hears : List Event → List Event → Option LineRead → Type 0
Hears old new None = new ≡ old ++ End ∷ []
Hears old new (Some read) = HearsLine old new (read_as read)

-- nothing was heard, or a line that can't be read for want of memory
abbrev pub HearsInVain : List Event → List Event → Type 0
HearsInVain old new = (new ≡ old) ⊎ ((line : LineRecord) × HearsLine old new line)

-- a fault of the port, or want of memory
abbrev pub IsPortFault : ServeError → Type 0
IsPortFault = IsFaultOf ⊤ (λ number word. ⊥) ⊥

-- why a line has no answer, where so many records and questions were numbered before
abbrev pub IsAnswerFault : ℕ → ServeError → Type 0
IsAnswerFault number = IsFaultOf ⊥ (λ place word. ⊥) (number + 1 ≡ 2 ^ 32)

-- lines enough were heard that their numbers were at an end, where so many records and questions were numbered before
abbrev pub AreTooMany : ℕ → List Event → List Event → Type 0
AreTooMany number old new = (done : List Event) × (new ≡ old ++ done) × (2 ^ 32 ≤ number + count_by is_line done)

-- why the lines aren't served to the end
abbrev pub IsLinesFault : ℕ → List Event → List Event → ServeError → Type 0
IsLinesFault number old new = IsFaultOf ⊤ (λ place word. ⊥) (AreTooMany number old new)

-- all lines were served to the end
abbrev pub Serves : ReplyForm → DayRecord → ℕ → List Event → List Event → Type 0
Serves form d number old new = (xs : List Exchange) × AreReplies form d number xs × (new ≡ old ++ (served d xs ++ End ∷ []))

-- lines were served up to some moment
abbrev pub ServeStops : ReplyForm → DayRecord → ℕ → List Event → List Event → Type 0
ServeStops form d number old new = (xs : List Exchange) × (next : Event) × AreReplies form d number xs × IsHeard next × Stops old (served d xs ++ next ∷ []) new

-- a day was started
pub record Starts (format : Format) (g : AirportRows) (marked : Bool) (old new : List Event) (d : DayRecord) : Type 0 where
  pub bytes : List ℕ
  pub accepted : refusals_in g (start_text marked bytes) ≡ []
  pub day : d ≡ day_of g marked bytes
  pub events : new ≡ old ++ started format g marked bytes

-- a day was being started
abbrev pub StartStops : Format → AirportRows → Bool → List Event → List Event → Type 0
StartStops format g marked old new = (bytes : List ℕ) × (Stops old (reading marked bytes) new
    ⊎ ((refusals_in g (start_text marked bytes) ≡ []) × Stops old (started format g marked bytes) new))

-- why a day isn't started
abbrev pub IsStartFault : AirportRows → Bool → List Event → List Event → ServeError → Type 0
IsStartFault g marked old new = IsFaultOf ⊤ (λ number word. (bytes : List ℕ) × (others : List (ℕ × RefusalWord))
    × (new ≡ old ++ reading marked bytes) × (refusals_in g (start_text marked bytes) ≡ (number, word) ∷ others)) ⊥
