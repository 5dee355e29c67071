-- The rows of a day's flights as CSV.
use Rattle.std.specs.Prelude.{◌≡◌, ℕ, List, [], ◌∷◌, ◌++◌, codes, map, nat_eq, if◌then◌else◌}
use Rattle.std.specs.Cmp.Lexicographic.{pointwise}
use Rattle.std.specs.List.{concat, AllZip}
use Rattle.cdm_csv.specs.Rows.{csv_text}
use Rattle.cdm_time.specs.declared.calendar.CalendarDate.{CalendarDate}
use Rattle.cdm_flight.specs.Words.{text_of}
use Rattle.cdm_flight.specs.declared.word.RefusalWord.{RefusalWord}
use Rattle.cdm_sequence.specs.declared.plan.Plan.{Plan}
use Rattle.cdm_plan.specs.Day.{DayRecord}
use Rattle.cdm_plan.specs.DayPlan.{IsDayPlan}
use Rattle.cdm_row.specs.Columns as row
use Rattle.cdm_row.specs.Columns.{row_fields}
use Rattle.cdm_row.specs.Rows.{AreRows}
use Rattle.cdm_row.specs.declared.row.Row.{Row}
use Rattle.cdm_scenario.specs.Outcome.{IsOutcome}
use Rattle.cdm_scenario.specs.Overlay.{with_updates}
use Rattle.cdm_scenario.specs.Scenarios.{ScenarioRecord}
use Rattle.cdm_scenario.specs.declared.outcome.Outcome.{Outcome}
use Rattle.cdm_scenario.specs.declared.outcome.Outcome.TheVariants.{Planned, Refused}

-- the first row names the columns: a scenario, and those of a flight's Row
abbrev pub column_names : List (List ℕ)
column_names = codes "scenario" ∷ row.column_names

-- a flight's Row under a scenario's name, or under none for the day itself
abbrev pub flight_row : CalendarDate → List ℕ → Row → List (List ℕ)
flight_row day scenario row = scenario ∷ row_fields day row

-- what the row of a scenario that is refused has in a column: as its status that it is refused, as its rule the word
abbrev pub refused_field : RefusalWord → List ℕ → List ℕ
refused_field word name =
    if pointwise nat_eq name (codes "status") then codes "REFUSED"
    else if pointwise nat_eq name (codes "rule") then text_of word
    else []

abbrev pub refused_row : List ℕ → RefusalWord → List (List ℕ)
refused_row scenario word = scenario ∷ map (refused_field word) row.column_names

-- Rows of a day.

-- flights' Rows under a scenario's name, or under none
abbrev pub flights_text : CalendarDate → List ℕ → List Row → List ℕ
flights_text day scenario rows = csv_text (map (flight_row day scenario) rows)

-- the text has the Rows of a day's flights by name, under a scenario's name or under none
abbrev pub AreFlightRows : DayRecord → Plan → List ℕ → List ℕ → Type 0
AreFlightRows d plan scenario text = (rows : List Row) × AreRows d plan rows × (text ≡ flights_text d.airport.day scenario rows)

-- what comes of the day by a scenario: each flight's row, or the one of its word
abbrev pub AreRowsBy : DayRecord → ScenarioRecord → Outcome → List ℕ → Type 0
AreRowsBy d s (Planned plan counts) text = AreFlightRows (with_updates d s.updates) plan s.name text
AreRowsBy d s (Refused number word) text = text ≡ csv_text (refused_row s.name word ∷ [])

abbrev pub AreScenarioRows : DayRecord → ScenarioRecord → List ℕ → Type 0
AreScenarioRows d s text = (o : Outcome) × IsOutcome d s.updates o × AreRowsBy d s o text

-- the names of the columns, the rows of the day itself, and those of each scenario
pub record IsCsv (d : DayRecord) (scenarios : List ScenarioRecord) (text : List ℕ) : Type 0 where
  pub plan : Plan
  pub of_day : IsDayPlan d plan
  pub own : List ℕ
  pub rows : AreFlightRows d plan [] own
  pub answers : List (List ℕ)
  pub of_scenarios : AllZip (AreScenarioRows d) scenarios answers
  pub bytes : text ≡ csv_text (column_names ∷ []) ++ own ++ concat answers
