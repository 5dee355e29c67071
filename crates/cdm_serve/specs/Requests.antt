-- What a line of the input asks for.
use Rattle.std.specs.Prelude.{ℕ, List, length, Some, bytes_eq, codes, Result, Ok, Err, if◌then◌else◌}
use Rattle.cdm_time.specs.declared.calendar.CalendarDate.{CalendarDate}
use Rattle.cdm_flight.specs.declared.word.RefusalWord.{RefusalWord}
use Rattle.cdm_flight.specs.declared.word.RefusalWord.TheVariants.{Fields}
use Rattle.cdm_files.specs.Fields.{counted, field, flight_field, of_one, runway_field}
use Rattle.cdm_files.specs.Parsing.{parse_of}
use Rattle.cdm_journal.specs.Lines.{LineRecord}
use Rattle.cdm_journal.specs.Lines.LineRecord.{Blank, One, Several}
use Rattle.cdm_view.specs.declared.question.Question.TheVariants.{Load, Why}
use Rattle.cdm_serve.specs.declared.asked.Asked.{Asked}
use Rattle.cdm_serve.specs.declared.asked.Asked.TheVariants.{Options, Plan, View}
use Rattle.cdm_serve.specs.declared.request.Request.{Request}
use Rattle.cdm_serve.specs.declared.request.Request.TheVariants.{Ask, Nothing, Post}

-- the question what holds the flight of this name
abbrev pub flight_asked : List ℕ → Result Asked RefusalWord
flight_asked name = of_one (λ flight. View (Why flight)) (flight_field name)

-- the question how full the runway of this name is
abbrev pub runway_asked : List ℕ → Result Asked RefusalWord
runway_asked name = of_one (λ runway. View (Load (Some runway))) (runway_field name)

-- the question what could help the flight of this name
abbrev pub options_asked : List ℕ → Result Asked RefusalWord
options_asked name = of_one (λ flight. Options flight) (flight_field name)

-- a good question is asked; a faulty one is refused as a record is
abbrev pub asked_by : Result Asked RefusalWord → Request
asked_by (Ok asked) = Ask asked
asked_by (Err word) = Post (Err word)

-- what a record of these fields asks for: PLAN alone, WHY and a flight, LOAD and a runway, OPTIONS and a flight are questions
unfoldable pub request_in : CalendarDate → List (List ℕ) → Request
request_in day fields =
    if bytes_eq (field fields 0) (codes "PLAN") then asked_by (counted 1 (length fields) (Ok Plan))
    else if bytes_eq (field fields 0) (codes "WHY") then asked_by (counted 2 (length fields) (flight_asked (field fields 1)))
    else if bytes_eq (field fields 0) (codes "LOAD") then asked_by (counted 2 (length fields) (runway_asked (field fields 1)))
    else if bytes_eq (field fields 0) (codes "OPTIONS") then asked_by (counted 2 (length fields) (options_asked (field fields 1)))
    else Post (parse_of day fields)

-- what a line asks for; one of several records is refused by FIELDS
abbrev pub request_of : CalendarDate → LineRecord → Request
request_of day Blank = Nothing
request_of day (One fields) = request_in day fields
request_of day Several = Post (Err Fields)
