-- Replies to records, as JSON.
use Rattle.std.specs.Prelude.{ℕ, List, [], ◌∷◌, codes, map, Some}
use Rattle.json.specs.Json.{Json, string}
use Rattle.cdm_time.specs.declared.calendar.CalendarDate.{CalendarDate}
use Rattle.cdm_flight.specs.Words.{text_of}
use Rattle.cdm_flight.specs.declared.word.RefusalWord.{RefusalWord}
use Rattle.cdm_desk.specs.declared.reply.RowReply.{RowReply}
use Rattle.cdm_desk.specs.declared.reply.RowReply.TheVariants.{Accepted, Refused}
use Rattle.cdm_row.specs.Json.{array_of, count_json, row_json}
use Rattle.cdm_row.specs.declared.row.Row.{Row}
use Rattle.cdm_json.specs.Lines.{answer_line}

-- how many updates there are, and the Rows that changed
abbrev pub accepted_members : CalendarDate → ℕ → List Row → List (List ℕ × Json)
accepted_members day count rows = (codes "accepted", count_json count) ∷ (codes "changes", array_of (map (row_json day) rows)) ∷ []

-- the word that refuses a record
abbrev pub refused_members : RefusalWord → List (List ℕ × Json)
refused_members word = (codes "word", string (text_of word)) ∷ []

abbrev pub accepted_line : CalendarDate → ℕ → ℕ → List Row → List ℕ
accepted_line day number count rows = answer_line (Some number) (codes "ACCEPTED") (accepted_members day count rows)

abbrev pub refused_line : ℕ → RefusalWord → List ℕ
refused_line number word = answer_line (Some number) (codes "REFUSED") (refused_members word)

-- a reply to the record of this number, where the day has so many updates then
abbrev pub reply_line : CalendarDate → ℕ → ℕ → RowReply → List ℕ
reply_line day number count (Accepted changed) = accepted_line day number count changed
reply_line day number count (Refused word) = refused_line number word
