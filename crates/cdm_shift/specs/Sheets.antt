-- What is told of a day as CSV: a row that names the columns, and one for each start-up, warning, group or cell.
use Rattle.std.specs.Prelude.{◌≡◌, ℕ, ◌*◌, List, [], ◌∷◌, ◌++◌, codes, drop, filter, flat_map, length, map, Option}
use Rattle.std.specs.Fmt.{decimal}
use Rattle.csv.specs.Writing.{default_writer, row_text}
use Rattle.cdm_time.specs.Times.{time_text}
use Rattle.cdm_time.specs.declared.calendar.CalendarDate.{CalendarDate}
use Rattle.cdm_flight.specs.Journal.{AirportRows}
use Rattle.cdm_runway.specs.Rules.{RunwayRules}
use Rattle.cdm_sequence.specs.declared.plan.Plan.{Plan}
use Rattle.cdm_sequence.specs.declared.slot.Slot.{Slot}
use Rattle.cdm_plan.specs.Day.{DayRecord}
use Rattle.cdm_plan.specs.DayPlan.{AreByName}
use Rattle.cdm_csv.specs.Rows.{csv_text}
use Rattle.cdm_row.specs.Columns.{Value, field}
use Rattle.cdm_row.specs.declared.row.Row.{Row}
use Rattle.cdm_view.specs.Load.{cap_of_cell, closed_in_cell, flights_in_cell, is_asked, told_cells, usual_cap}
use Rattle.cdm_view.specs.Reasons.{slots_on}
use Rattle.cdm_view.specs.Why.{name_or_dash}
use Rattle.cdm_shift.specs.Costs.{costs_of, on_stand, rows_in, told_groups}
use Rattle.cdm_shift.specs.Objects.{costs_members, start_up_members, warning_members}
use Rattle.cdm_shift.specs.StartUps.{start_ups}
use Rattle.cdm_shift.specs.Warnings.{warnings}
use Rattle.cdm_shift.specs.declared.costs.Costs.{Costs}
use Rattle.cdm_shift.specs.declared.question.GroupBy.{GroupBy}
use Rattle.cdm_shift.specs.declared.start_ups.StartUp.{StartUp}
use Rattle.cdm_shift.specs.declared.warning.Warning.{Warning}

-- a row has the values of an object's members
abbrev pub fields_of : CalendarDate → List (List ℕ × Value) → List (List ℕ)
fields_of day members = map (λ m. field day m.1) members

-- Start-ups.

unfoldable pub start_up_columns : List (List ℕ)
start_up_columns =
    codes "tsat" ∷ codes "flight" ∷ codes "runway" ∷ codes "stand" ∷ codes "tobt" ∷ codes "ctot" ∷ codes "ttot" ∷ codes "delay"
    ∷ codes "cause" ∷ []

abbrev pub start_up_fields : CalendarDate → StartUp → List (List ℕ)
start_up_fields day s = fields_of day (start_up_members s)

abbrev pub next_sheet : DayRecord → Plan → List Row → ℕ → List ℕ
next_sheet d plan rows minutes = csv_text (start_up_columns ∷ map (start_up_fields d.airport.day) (start_ups d plan rows minutes))

-- Warnings.

unfoldable pub warning_columns : List (List ℕ)
warning_columns =
    codes "kind" ∷ codes "flight" ∷ codes "runway" ∷ codes "time" ∷ codes "ctot" ∷ codes "ttot" ∷ codes "rule" ∷ codes "placed"
    ∷ codes "cap" ∷ []

abbrev pub warning_fields : CalendarDate → Warning → List (List ℕ)
warning_fields day w = fields_of day (warning_members w)

abbrev pub warnings_sheet : DayRecord → Plan → List Row → List RunwayRules → List ℕ
warnings_sheet d plan rows runways = csv_text (warning_columns ∷ map (warning_fields d.airport.day) (warnings d plan rows runways))

-- Causes.

unfoldable pub costs_columns : List (List ℕ)
costs_columns =
    codes "group" ∷ codes "placed" ∷ codes "delay" ∷ codes "ice" ∷ codes "ctot" ∷ codes "closure" ∷ codes "spacing" ∷ codes "rate"
    ∷ codes "now" ∷ codes "blocked" ∷ []

abbrev pub costs_fields : CalendarDate → List ℕ → Costs → List (List ℕ)
costs_fields day name c = fields_of day (costs_members name c)

-- the row of a group
abbrev pub group_fields : DayRecord → Plan → GroupBy → List Row → Option (List ℕ) → List (List ℕ)
group_fields d plan by rows g = costs_fields d.airport.day (name_or_dash g) (costs_of d plan (rows_in by rows g))

-- and that of all flights last
abbrev pub causes_sheet : DayRecord → Plan → GroupBy → List Row → List ℕ
causes_sheet d plan by rows =
    csv_text (costs_columns ∷ map (group_fields d plan by (on_stand rows)) (told_groups by (on_stand rows)))
    ++ csv_text (costs_fields d.airport.day (codes "TOTAL") (costs_of d plan (on_stand rows)) ∷ [])

-- Cells.

unfoldable pub cell_columns : List (List ℕ)
cell_columns =
    codes "runway" ∷ codes "cell" ∷ codes "from" ∷ codes "placed" ∷ codes "cap" ∷ codes "closed" ∷ codes "flights" ∷ []

-- the names of flights, with a space between them
abbrev pub names_field : List Slot → List ℕ
names_field slots = drop 1 (flat_map (λ s. codes " " ++ s.name) slots)

-- a cell: its runway and its length, its first minute, how many flights it has and may have, how many of its minutes are closed,
-- and its flights
unfoldable pub cell_fields : CalendarDate → RunwayRules → List Slot → ℕ → List (List ℕ)
cell_fields day rules slots k =
    rules.name ∷ decimal rules.cell ∷ time_text day (k * rules.cell) ∷ decimal (length (flights_in_cell rules slots k))
    ∷ decimal (cap_of_cell rules k) ∷ decimal (closed_in_cell rules k) ∷ names_field (flights_in_cell rules slots k) ∷ []

abbrev pub cell_row : CalendarDate → RunwayRules → List Slot → ℕ → List ℕ
cell_row day rules slots k = row_text default_writer (cell_fields day rules slots k)

-- the cells of a runway from the first that tells something to the last
unfoldable pub runway_sheet : AirportRows → Plan → RunwayRules → List ℕ
runway_sheet g plan rules =
    let slots = slots_on plan rules.name in
    flat_map (cell_row g.day rules slots) (told_cells rules (usual_cap g rules.name) slots)

-- how full the runways asked are, of the day's by name
abbrev pub IsLoadSheet : DayRecord → Plan → Option (List ℕ) → List ℕ → Type 0
IsLoadSheet d plan asked text =
    (runways : List RunwayRules) × AreByName d runways
    × (text ≡ csv_text (cell_columns ∷ []) ++ flat_map (runway_sheet d.airport plan) (filter (is_asked asked) runways))
