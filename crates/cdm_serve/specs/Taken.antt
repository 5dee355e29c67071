-- The records that a served day takes.
use Rattle.std.specs.Prelude.{ℕ, List, [], ◌∷◌, ◌++◌, Option, None, Some, Ok, Err}
use Rattle.cdm_flight.specs.Accepted.{refusal}
use Rattle.cdm_flight.specs.declared.update.Update.{Update}
use Rattle.cdm_flight.specs.declared.word.RefusalWord.{RefusalWord}
use Rattle.cdm_journal.specs.Lines.{LineRecord, line_record}
use Rattle.cdm_journal.specs.Lines.LineRecord.{Blank, One, Several}
use Rattle.cdm_plan.specs.Day.{DayRecord}
use Rattle.cdm_serve.specs.Requests.{request_of}
use Rattle.cdm_serve.specs.declared.request.Request.{Request}
use Rattle.cdm_serve.specs.declared.request.Request.TheVariants.{Ask, Nothing, Post}

-- what a line of the input says; one that was passed over, since it is too long or no LF ends it, is refused as
-- several records are
abbrev pub record_heard : Option (List ℕ) → LineRecord
record_heard (Some line) = line_record line
record_heard None = Several

-- a record that is accepted: its fields, and the update that they spell
pub record TakenRecord : Type 0 where
  pub fields : List (List ℕ)
  pub update : Update

-- the fields of a line that is one record
abbrev pub fields_in : LineRecord → List (List ℕ)
fields_in Blank = []
fields_in (One fields) = fields
fields_in Several = []

-- a record, unless a word refuses its update
abbrev pub unless_refused : Option RefusalWord → List (List ℕ) → Update → Option TakenRecord
unless_refused (Some word) fields update = None
unless_refused None fields update = Some (record { fields = fields; update = update })

-- the record of these fields, where it is posted and no word refuses it
abbrev pub taken_of : DayRecord → List (List ℕ) → Request → Option TakenRecord
taken_of d fields Nothing = None
taken_of d fields (Ask asked) = None
taken_of d fields (Post (Err word)) = None
taken_of d fields (Post (Ok update)) = unless_refused (refusal d.airport d.journal update.0 update.1) fields update.1

-- the record that a day takes of what a line says
abbrev pub taken : DayRecord → LineRecord → Option TakenRecord
taken d line = taken_of d (fields_in line) (request_of d.airport.day line)

-- a day with one more record, where there is one
abbrev pub day_with : DayRecord → Option TakenRecord → DayRecord
day_with d None = d
day_with d (Some one) = record d { journal = d.journal ++ one.update ∷ [] }

-- the day after what a line says
abbrev pub after : DayRecord → LineRecord → DayRecord
after d line = day_with d (taken d line)
