-- What could help a flight, line by line.
use Rattle.std.specs.Prelude.{ℕ, ◌-◌, List, [], ◌∷◌, ◌++◌, codes, flat_map, fold, length, map, max, Option, None, Some}
use Rattle.std.specs.Fmt.{decimal}
use Rattle.std.specs.List.{concat}
use Rattle.std.specs.Option.{option_map_or}
use Rattle.cdm_time.specs.declared.calendar.CalendarDate.{CalendarDate}
use Rattle.cdm_flight.specs.declared.update.Update.{Update}
use Rattle.cdm_sequence.specs.declared.rule.Rule.{Rule}
use Rattle.cdm_sequence.specs.Words.{rule_text}
use Rattle.cdm_report.specs.Columns.{left_in, right_in, time_column}
use Rattle.cdm_report.specs.Delta.{change}
use Rattle.cdm_report.specs.Report.{day_line, line_end}
use Rattle.cdm_report.specs.declared.counts.Counts.{Counts}
use Rattle.cdm_carry.specs.Texts.{record_text}
use Rattle.cdm_options.specs.Tried.{sender_of}
use Rattle.cdm_options.specs.declared.helping.Helping.{Helping}
use Rattle.cdm_options.specs.declared.options.Options.{Options}

-- a record as a feed has it, from the role that may send it
abbrev pub sent : CalendarDate → Update → List ℕ
sent day u = record_text day (sender_of u, u)

-- Columns.

-- the records' column is as wide as the longest of them, and as its heading
abbrev pub width_with : CalendarDate → ℕ → Helping → ℕ
width_with day width h = max width (length (sent day h.update))

abbrev pub width_of : CalendarDate → List Helping → ℕ
width_of day helping = fold (width_with day) 6 helping

-- by how many minutes a take-off is sooner; a hyphen where there was none
unfoldable pub gain_text : Option ℕ → ℕ → List ℕ
gain_text before ttot = option_map_or (λ m. decimal (m - ttot)) before (codes "-")

-- a field on the right of a column, behind a blank
abbrev pub column : ℕ → List ℕ → List ℕ
column width field = codes " " ++ right_in width field

-- by how much the indicators grow, and how many flights stand otherwise
unfoldable pub count_columns : Counts → Counts → ℕ → List ℕ
count_columns base counts moved =
    column 6 (change base.delay counts.delay) ++ column 5 (change base.greatest counts.greatest) ++ column 5 (change base.late counts.late)
    ++ column 7 (change base.blocked counts.blocked) ++ column 6 (decimal moved)

-- the record, the flight's take-off with it, and by how many minutes it is sooner
unfoldable pub first_columns : CalendarDate → ℕ → Option ℕ → Helping → List ℕ
first_columns day width before h =
    left_in width (sent day h.update) ++ codes " " ++ time_column day (Some h.ttot) ++ column 5 (gain_text before h.ttot)

-- Lines.

-- the flight's take-off, or the rule that blocks it
unfoldable pub stand_told : CalendarDate → Option ℕ → Option Rule → List ℕ
stand_told day (Some ttot) rule = codes "TTOT " ++ time_column day (Some ttot)
stand_told day None (Some rule) = codes "BLOCKED " ++ rule_text rule
stand_told day None None = codes "BLOCKED"

-- the flight, where it stands, and its CTOT
unfoldable pub flight_line : CalendarDate → Options → List ℕ
flight_line day o = concat (
    codes "FLIGHT " ∷ o.flight.name ∷ codes " " ∷ stand_told day o.before o.rule ∷ codes " CTOT " ∷ time_column day o.flight.ctot ∷ line_end ∷ [])

unfoldable pub heading : ℕ → List ℕ
heading width = left_in width (codes "OPTION") ++ codes "   TTOT  GAIN  DELAY   MAX  LATE BLOCKED  MOVED" ++ line_end

-- a record that helps, and what it would do
unfoldable pub help_line : CalendarDate → ℕ → Option ℕ → Counts → Helping → List ℕ
help_line day width before base h = first_columns day width before h ++ count_columns base h.counts h.moved ++ line_end

-- how many were tried, help and were refused
unfoldable pub total_line : Options → List ℕ
total_line o = concat (
    codes "TRIED " ∷ decimal o.tried ∷ codes " HELP " ∷ decimal (length o.helping) ∷ codes " REFUSED " ∷ decimal o.refused ∷ line_end ∷ [])

unfoldable pub options_lines : CalendarDate → Options → List ℕ
options_lines day o =
    day_line day o.clock ++ flight_line day o ++ heading (width_of day o.helping)
    ++ flat_map (help_line day (width_of day o.helping) o.before o.counts) o.helping ++ total_line o
