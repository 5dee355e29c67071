-- Rows of the day itself, as they are written.
use Rattle.std.specs.Prelude.{◌≡◌, List, [], ℕ, flat_map}
use Rattle.csv.specs.Writing.{default_writer, row_text}
use Rattle.json.specs.Print.{print}
use Rattle.json.specs.Tree.{json_tokens}
use Rattle.cdm_time.specs.declared.calendar.CalendarDate.{CalendarDate}
use Rattle.cdm_row.specs.Json.{row_json}
use Rattle.cdm_row.specs.declared.row.Row.{Row}
use Rattle.cdm_table.specs.Rows.{flight_row}
use Rattle.cdm_table.specs.declared.own_row.OwnRow.{OwnRow}

-- a Row under no scenario's name
abbrev pub csv_row : CalendarDate → Row → List ℕ
csv_row day row = row_text default_writer (flight_row day [] row)

-- a Row as JSON
abbrev pub json_row : CalendarDate → Row → List ℕ
json_row day row = print (json_tokens (row_json day row))

-- the text is that of the flight's Row in this form
abbrev pub IsOwnRow : (Row → List ℕ) → OwnRow → Type 0
IsOwnRow form own = own.text.items ≡ form own.row

-- the texts, one after another
abbrev pub own_text : List OwnRow → List ℕ
own_text rows = flat_map (λ own. own.text.items) rows
