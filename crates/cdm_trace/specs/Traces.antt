-- Which record of a feed moved whose start-up.
use Rattle.std.specs.Prelude.{◌≡◌, ℕ, ◌+◌, Bool, true, false, nat_lt, List, [], ◌∷◌, ◌++◌, codes, length, map, Option, None, Some, Result, Ok, if◌then◌else◌}
use Rattle.std.specs.Fmt.{decimal}
use Rattle.std.specs.List.{concat, find}
use Rattle.std.specs.Str.{is_utf8}
use Rattle.json.specs.Json.{Json, null, string}
use Rattle.cdm_time.specs.Times.{minute_up_to}
use Rattle.cdm_time.specs.declared.calendar.CalendarDate.{CalendarDate}
use Rattle.cdm_time.specs.declared.day.TimeFault.{TimeFault}
use Rattle.cdm_flight.specs.Journal.{AirportRows, values_of}
use Rattle.cdm_flight.specs.Names.{same_name}
use Rattle.cdm_plan.specs.Day.{DayRecord}
use Rattle.cdm_report.specs.Report.{line_end}
use Rattle.cdm_view.specs.Standings.{flight_name}
use Rattle.cdm_view.specs.declared.standing.Standing.{Standing}
use Rattle.cdm_row.specs.Changed.{row_named}
use Rattle.cdm_row.specs.Json.{array_of, count_json, object_of, row_json}
use Rattle.cdm_row.specs.declared.row.Row.{Row}
use Rattle.cdm_desk.specs.Replies.{IsReply, IsRowReply, changed_line, day_after, reply_text}
use Rattle.cdm_desk.specs.declared.reply.DeskReply.{DeskReply}
use Rattle.cdm_desk.specs.declared.reply.DeskReply.TheVariants.{Accepted, Refused}
use Rattle.cdm_desk.specs.declared.reply.RowReply.{RowReply}
use Rattle.cdm_desk.specs.declared.reply.RowReply.TheVariants as row_reply
use Rattle.cdm_json.specs.Lines.{json_line}
use Rattle.cdm_json.specs.Records.{reply_line}
use Rattle.cdm_kinds.specs.declared.format.Format.{Format}
use Rattle.cdm_kinds.specs.declared.format.Format.TheVariants.{Text, Json as AsJson}
use Rattle.cdm_files.specs.Parsing.{parse_of}
use Rattle.cdm_files.specs.Records.{records_of}
use Rattle.cdm_journal.specs.Journal.{record_text}

-- What is told of a record by its reply, as text.

-- where all records are asked for: nothing where it is accepted and no flight stands otherwise
abbrev pub told_of_all : CalendarDate → ℕ → DeskReply → List ℕ
told_of_all day number (Refused word) = reply_text day number (Refused word)
told_of_all day number (Accepted []) = []
told_of_all day number (Accepted (s ∷ others)) = reply_text day number (Accepted (s ∷ others))

-- where a flight of this name stands, among those that changed
abbrev pub standing_in : List ℕ → List Standing → Option Standing
standing_in name changed = find (λ s. same_name (flight_name s) name) changed

-- the record by its number, and where the flight stands after it
unfoldable pub moved_text : CalendarDate → ℕ → List (List ℕ) → Standing → List ℕ
moved_text day number fields s = concat (decimal number ∷ codes " " ∷ record_text fields ∷ line_end ∷ changed_line day s ∷ [])

-- the same where it changed, else nothing
abbrev pub moved_if : CalendarDate → ℕ → List (List ℕ) → Option Standing → List ℕ
moved_if day number fields None = []
moved_if day number fields (Some s) = moved_text day number fields s

-- where one flight is asked for: nothing where it stands as before
abbrev pub told_of_flight : List ℕ → CalendarDate → ℕ → List (List ℕ) → DeskReply → List ℕ
told_of_flight name day number fields (Refused word) = []
told_of_flight name day number fields (Accepted changed) = moved_if day number fields (standing_in name changed)

-- of all records, or of one flight
abbrev pub told : Option (List ℕ) → CalendarDate → ℕ → List (List ℕ) → DeskReply → List ℕ
told None day number fields reply = told_of_all day number reply
told (Some name) day number fields reply = told_of_flight name day number fields reply

-- What is told of a record by its reply, as JSON.

-- where all records are asked for, and the day has so many updates then: nothing where it is accepted and changes no Row
abbrev pub json_of_all : CalendarDate → ℕ → ℕ → RowReply → List ℕ
json_of_all day number count (row_reply.Refused word) = reply_line day number count (row_reply.Refused word)
json_of_all day number count (row_reply.Accepted []) = []
json_of_all day number count (row_reply.Accepted (row ∷ others)) = reply_line day number count (row_reply.Accepted (row ∷ others))

-- a field of a record: null where it is no UTF-8
abbrev pub field_json : List ℕ → Json
field_json field = if is_utf8 field then string field else null

-- the number of a record and its fields
abbrev pub record_members : ℕ → List (List ℕ) → List (List ℕ × Json)
record_members number fields = (codes "record", count_json number) ∷ (codes "fields", array_of (map field_json fields)) ∷ []

-- the record, and the flight's Row after it
abbrev pub moved_line : CalendarDate → ℕ → List (List ℕ) → Row → List ℕ
moved_line day number fields row = json_line (object_of (record_members number fields ++ (codes "row", row_json day row) ∷ []))

-- the same where the Row changed, else nothing
abbrev pub moved_line_if : CalendarDate → ℕ → List (List ℕ) → Option Row → List ℕ
moved_line_if day number fields None = []
moved_line_if day number fields (Some row) = moved_line day number fields row

-- where one flight is asked for: nothing where its Row is as before
abbrev pub json_of_flight : List ℕ → CalendarDate → ℕ → List (List ℕ) → RowReply → List ℕ
json_of_flight name day number fields (row_reply.Refused word) = []
json_of_flight name day number fields (row_reply.Accepted changed) = moved_line_if day number fields (row_named changed name)

-- of all records, or of one flight
abbrev pub told_json : Option (List ℕ) → CalendarDate → ℕ → ℕ → List (List ℕ) → RowReply → List ℕ
told_json None day number count fields reply = json_of_all day number count reply
told_json (Some name) day number count fields reply = json_of_flight name day number fields reply

-- What is told of records.

-- what is told of a record of this number that comes after this day
abbrev pub IsPiece : Format → Option (List ℕ) → DayRecord → ℕ → List (List ℕ) → List ℕ → Type 0
IsPiece Text asked d number fields piece =
    (reply : DeskReply) × IsReply d (parse_of d.airport.day fields) reply × (piece ≡ told asked d.airport.day number fields reply)
IsPiece AsJson asked d number fields piece =
    (reply : RowReply) × IsRowReply d (parse_of d.airport.day fields) reply
    × (piece ≡ told_json asked d.airport.day number (length (day_after d (parse_of d.airport.day fields)).journal) fields reply)

-- From which record on.

-- the minute of the airport's two days that a time names, from which records are told: the first, where none is named
abbrev pub from_minute : CalendarDate → Option (List ℕ) → Result ℕ TimeFault
from_minute day None = Ok 0
from_minute day (Some time) = minute_up_to 2879 day time

-- the clock of a day is before this minute
abbrev pub is_before : ℕ → DayRecord → Bool
is_before from d = nat_lt (values_of d.journal).clock from

-- what is told of a record of this number that comes after this day: nothing, where the clock is still before a minute
-- after it
abbrev pub IsPieceBy : Bool → Format → Option (List ℕ) → DayRecord → ℕ → List (List ℕ) → List ℕ → Type 0
IsPieceBy true format asked d number fields piece = piece ≡ []
IsPieceBy false format asked d number fields piece = IsPiece format asked d number fields piece

-- and so from a minute on: since a clock is never set back, from the first record after which it is that minute or later
abbrev pub IsPieceFrom : ℕ → Format → Option (List ℕ) → DayRecord → ℕ → List (List ℕ) → List ℕ → Type 0
IsPieceFrom from format asked d number fields =
    IsPieceBy (is_before from (day_after d (parse_of d.airport.day fields))) format asked d number fields

-- from this minute on the text tells of these records, of which the first has this number and comes after this day: what is
-- told of it, and then of the others
abbrev pub IsTold : ℕ → Format → Option (List ℕ) → DayRecord → ℕ → List (List (List ℕ)) → List ℕ → Type 0
IsTold from format asked d number [] text = text ≡ []
IsTold from format asked d number (fields ∷ records) text =
    (piece : List ℕ) × (later : List ℕ) × IsPieceFrom from format asked d number fields piece
    × IsTold from format asked (day_after d (parse_of d.airport.day fields)) (number + 1) records later
    × (text ≡ piece ++ later)

-- from this minute on the text tells of the records of a feed at an airport
abbrev pub IsTrace : Format → Option (List ℕ) → ℕ → AirportRows → List ℕ → List ℕ → Type 0
IsTrace format asked from g feed text = IsTold from format asked (record { airport = g; journal = [] }) 1 (records_of feed) text
