-- The notices before the next day, as lines for people and as JSON.
use Rattle.std.specs.Prelude.{ℕ, List, [], ◌∷◌, ◌++◌, codes, flat_map, map, Some}
use Rattle.std.specs.Fmt.{decimal}
use Rattle.std.specs.List.{concat}
use Rattle.json.specs.Json.{Json}
use Rattle.cdm_time.specs.declared.calendar.CalendarDate.{CalendarDate}
use Rattle.cdm_flight.specs.Words.{text_of}
use Rattle.cdm_flight.specs.declared.update.Update.{Update}
use Rattle.cdm_json.specs.Lines.{json_line}
use Rattle.cdm_kinds.specs.declared.format.Format.{Format}
use Rattle.cdm_kinds.specs.declared.format.Format.TheVariants.{Text, Json as AsJson}
use Rattle.cdm_report.specs.Columns.{time_column}
use Rattle.cdm_report.specs.Report.{line_end}
use Rattle.cdm_row.specs.Columns.{Value}
use Rattle.cdm_row.specs.Columns.Value.{nothing, text, number, minute}
use Rattle.cdm_row.specs.Json.{json_value, object_of}
use Rattle.cdm_carry.specs.Texts.{record_text, window_end}
use Rattle.cdm_carry.specs.declared.notice.Notice.{Notice}
use Rattle.cdm_carry.specs.declared.notice.Notice.TheVariants.{Left, EarlierTobt, EarlierCtot, Refused, Gone, Stay}

-- Times are those of the day that ends, and a record that is refused is one of the next day.

-- Lines.

-- a minute behind its title
abbrev pub at : CalendarDate → List ℕ → ℕ → List ℕ
at day title m = concat (codes " " ∷ title ∷ codes " " ∷ time_column day (Some m) ∷ [])

unfoldable pub notice_line : CalendarDate → CalendarDate → Notice → List ℕ
notice_line day next (Left name runway aobt ttot) =
    concat (codes "LEFT    " ∷ name ∷ codes " " ∷ runway ∷ at day (codes "AOBT") aobt ∷ at day (codes "TTOT") ttot ∷ line_end ∷ [])
notice_line day next (EarlierTobt name m) = concat (codes "EARLIER " ∷ name ∷ at day (codes "TOBT") m ∷ line_end ∷ [])
notice_line day next (EarlierCtot name m) = concat (codes "EARLIER " ∷ name ∷ at day (codes "CTOT") m ∷ line_end ∷ [])
notice_line day next (Refused n word role u) =
    concat (codes "REFUSED " ∷ decimal n ∷ codes " " ∷ text_of word ∷ codes " " ∷ record_text next (role, u) ∷ line_end ∷ [])
notice_line day next (Gone count) = concat (codes "GONE    " ∷ decimal count ∷ line_end ∷ [])
notice_line day next (Stay count) = concat (codes "STAY    " ∷ decimal count ∷ line_end ∷ [])

-- where the window of the update of a notice ends, if it has one
abbrev pub notice_end : Notice → ℕ
notice_end (Refused n word role u) = window_end u
notice_end notice = 0

-- Objects.

abbrev pub kind_word : Notice → List ℕ
kind_word (Left name runway aobt ttot) = codes "LEFT"
kind_word (EarlierTobt name m) = codes "EARLIER"
kind_word (EarlierCtot name m) = codes "EARLIER"
kind_word (Refused n word role u) = codes "REFUSED"
kind_word (Gone count) = codes "GONE"
kind_word (Stay count) = codes "STAY"

abbrev pub flight_value : Notice → Value
flight_value (Left name runway aobt ttot) = text name
flight_value (EarlierTobt name m) = text name
flight_value (EarlierCtot name m) = text name
flight_value notice = nothing

abbrev pub runway_value : Notice → Value
runway_value (Left name runway aobt ttot) = text runway
runway_value notice = nothing

abbrev pub aobt_value : Notice → Value
aobt_value (Left name runway aobt ttot) = minute aobt
aobt_value notice = nothing

abbrev pub ttot_value : Notice → Value
ttot_value (Left name runway aobt ttot) = minute ttot
ttot_value notice = nothing

abbrev pub tobt_value : Notice → Value
tobt_value (EarlierTobt name m) = minute m
tobt_value notice = nothing

abbrev pub ctot_value : Notice → Value
ctot_value (EarlierCtot name m) = minute m
ctot_value notice = nothing

-- the number of a record that is refused
abbrev pub record_value : Notice → Value
record_value (Refused n word role u) = number n
record_value notice = nothing

abbrev pub word_value : Notice → Value
word_value (Refused n word role u) = text (text_of word)
word_value notice = nothing

-- the record itself
abbrev pub line_value : CalendarDate → Notice → Value
line_value next (Refused n word role u) = text (record_text next (role, u))
line_value next notice = nothing

-- how many flights
abbrev pub flights_value : Notice → Value
flights_value (Gone count) = number count
flights_value (Stay count) = number count
flights_value notice = nothing

unfoldable pub notice_members : CalendarDate → Notice → List (List ℕ × Value)
notice_members next n =
    (codes "kind", text (kind_word n)) ∷ (codes "flight", flight_value n) ∷ (codes "runway", runway_value n) ∷ (codes "aobt", aobt_value n)
    ∷ (codes "ttot", ttot_value n) ∷ (codes "tobt", tobt_value n) ∷ (codes "ctot", ctot_value n) ∷ (codes "record", record_value n)
    ∷ (codes "word", word_value n) ∷ (codes "line", line_value next n) ∷ (codes "flights", flights_value n) ∷ []

-- a member, by its name and value
abbrev pub member_of : CalendarDate → List ℕ × Value → List ℕ × Json
member_of day m = (m.0, json_value day m.1)

-- the object of these members, on a line
abbrev pub object_line : CalendarDate → List (List ℕ × Value) → List ℕ
object_line day members = json_line (object_of (map (member_of day) members))

-- Texts.

abbrev pub notices_text : Format → CalendarDate → CalendarDate → List Notice → List ℕ
notices_text Text day next notices = flat_map (notice_line day next) notices
notices_text AsJson day next notices = flat_map (λ n. object_line day (notice_members next n)) notices
