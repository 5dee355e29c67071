-- A trace is lines.
use Rattle.std.proofs.Common.{ℕ, ◌+◌, Bool, true, false, cond, List, [], ◌∷◌, ◌++◌, length, arith, refl, Option, None, Some, codes}
use Rattle.std.specs.Str.{is_utf8}
use Rattle.json.specs.Json.{null, string}
use Rattle.cdm_time.specs.declared.calendar.CalendarDate.{CalendarDate}
use Rattle.cdm_flight.specs.Journal.{AirportRows}
use Rattle.cdm_plan.specs.Day.{DayRecord}
use Rattle.cdm_row.specs.{Changed.row_named, Json.{object_of, row_json}, declared.row.Row.Row}
use Rattle.cdm_desk.specs.{Replies.day_after, declared.reply.RowReply.RowReply, declared.reply.RowReply.TheVariants.{Accepted, Refused}}
use Rattle.cdm_kinds.specs.declared.format.Format.TheVariants.{Json as AsJson}
use Rattle.cdm_files.specs.{Parsing.parse_of, Records.records_of}
use Rattle.cdm_trace.specs.Traces.{IsPiece, IsPieceBy, IsTold, IsTrace, field_json, is_before, json_of_all, json_of_flight, moved_line_if}
use Rattle.cdm_trace.specs.Traces.{record_members, told_json}
use Rattle.cdm_lines.{specs.Lines.{AreLines, FitsLine}, proofs.AnswerLemmas.{is_reply_line, small_row}}
use Rattle.cdm_lines.proofs.Texts.{fits, lines-append, lines_same, no_lines, one_line}
use Rattle.cdm_lines.proofs.Values.{Small, small_array, small_decimal, small_more, small_null, small_object, small_string}

small_field : (field : List ℕ) → Small 2 (field_json field)
small_field field = by (is_utf8 field)
  where
    by : (b : Bool) → Small 2 (cond b (string field) null)
    by true = small_string 2 field
    by false = small_null 2

pub moved_fits : (day : CalendarDate) (number : ℕ) (fields : List (List ℕ)) (row : Row) → FitsLine (object_of (record_members number fields ++ (codes "row", row_json day row) ∷ []))
moved_fits day number fields row =
    let members = record_members number fields ++ (codes "row", row_json day row) ∷ [] in
    fits (object_of members)
    (small_object 3 members
    (small_decimal 3 number, (small_array 2 field_json small_field fields, (small_more 1 3 (row_json day row) (omega arith) (small_row day row), tt))))

all_lines : (day : CalendarDate) (number count : ℕ) (reply : RowReply) → AreLines (json_of_all day number count reply)
all_lines day number count (Refused word) = one_line _ (is_reply_line day number count (Refused word))
all_lines day number count (Accepted []) = no_lines
all_lines day number count (Accepted (row ∷ others)) = one_line _ (is_reply_line day number count (Accepted (row ∷ others)))

moved_lines : (day : CalendarDate) (number : ℕ) (fields : List (List ℕ)) (row : Option Row) → AreLines (moved_line_if day number fields row)
moved_lines day number fields None = no_lines
moved_lines day number fields (Some row) = one_line _ (_, moved_fits day number fields row, refl)

flight_lines : (name : List ℕ) (day : CalendarDate) (number : ℕ) (fields : List (List ℕ)) (reply : RowReply) → AreLines (json_of_flight name day number fields reply)
flight_lines name day number fields (Refused word) = no_lines
flight_lines name day number fields (Accepted changed) = moved_lines day number fields (row_named changed name)

told_lines : (asked : Option (List ℕ)) (day : CalendarDate) (number count : ℕ) (fields : List (List ℕ)) (reply : RowReply) → AreLines (told_json asked day number count fields reply)
told_lines None day number count fields reply = all_lines day number count reply
told_lines (Some name) day number count fields reply = flight_lines name day number fields reply

pub is_piece : (asked : Option (List ℕ)) (d : DayRecord) (number : ℕ) (fields : List (List ℕ)) (piece : List ℕ) → IsPiece AsJson asked d number fields piece → AreLines piece
is_piece asked d number fields piece (reply, is, same) =
    lines_same piece _ same (told_lines asked d.airport.day number (length (day_after d (parse_of d.airport.day fields)).journal) fields reply)

is_piece_by : (early : Bool) (asked : Option (List ℕ)) (d : DayRecord) (number : ℕ) (fields : List (List ℕ)) (piece : List ℕ) → IsPieceBy early AsJson asked d number fields piece
    → AreLines piece
is_piece_by true asked d number fields piece is = lines_same piece [] is no_lines
is_piece_by false asked d number fields piece is = is_piece asked d number fields piece is

is_told : (from : ℕ) (asked : Option (List ℕ)) (records : List (List (List ℕ))) (d : DayRecord) (number : ℕ) (text : List ℕ) → IsTold from AsJson asked d number records text
    → AreLines text
is_told from asked [] d number text is = lines_same text [] is no_lines
is_told from asked (fields ∷ records) d number text (piece, later, of_piece, of_later, same) =
    lines_same text (piece ++ later) same
    (lines-append piece later (is_piece_by (is_before from (day_after d (parse_of d.airport.day fields))) asked d number fields piece of_piece)
    (is_told from asked records (day_after d (parse_of d.airport.day fields)) (number + 1) later of_later))

pub is_trace : (asked : Option (List ℕ)) (from : ℕ) (g : AirportRows) (feed text : List ℕ) → IsTrace AsJson asked from g feed text → AreLines text
is_trace asked from g feed text is = is_told from asked (records_of feed) (record { airport = g; journal = [] }) 1 text is
