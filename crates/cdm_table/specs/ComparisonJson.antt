-- A day and its scenarios side by side as JSON.
use Rattle.std.specs.Prelude.{◌≡◌, ℕ, List, [], ◌∷◌, ◌++◌, codes, flat_map, map, Option, None, Some}
use Rattle.json.specs.Json.{Json, string}
use Rattle.cdm_time.specs.declared.calendar.CalendarDate.{CalendarDate}
use Rattle.cdm_sequence.specs.declared.plan.Plan.{Plan}
use Rattle.cdm_plan.specs.Day.{DayRecord}
use Rattle.cdm_plan.specs.DayPlan.{IsDayPlan}
use Rattle.cdm_view.specs.Standings.{IsChangedTo, flight_name}
use Rattle.cdm_view.specs.declared.standing.Standing.{Standing}
use Rattle.cdm_row.specs.Changed.{row_named}
use Rattle.cdm_row.specs.Json.{count_json, object_of, or_null, row_json}
use Rattle.cdm_row.specs.Rows.{AreRows}
use Rattle.cdm_row.specs.declared.row.Row.{Row}
use Rattle.cdm_scenario.specs.Scenarios.{ScenarioRecord}
use Rattle.cdm_json.specs.Lines.{json_line}
use Rattle.cdm_json.specs.Plans.{count_members}
use Rattle.cdm_table.specs.Comparison.{AreRanked}
use Rattle.cdm_table.specs.Moved.{as_it_is}
use Rattle.cdm_table.specs.Plans.{refusal_members}
use Rattle.cdm_table.specs.declared.line.Line.{Line}
use Rattle.cdm_table.specs.declared.line.Summary.{Summary}
use Rattle.cdm_table.specs.declared.line.Summary.TheVariants as summary

-- Lines.

-- the scenario, or null for the day itself
abbrev pub name_members : Option (List ℕ) → List (List ℕ × Json)
name_members name = (codes "scenario", or_null string name) ∷ []

-- the numbers of a plan, and how many flights stand otherwise; or the first refusal
abbrev pub summary_members : Summary → List (List ℕ × Json)
summary_members (summary.Planned counts moved) = count_members counts ++ (codes "moved", count_json moved) ∷ []
summary_members (summary.Refused number word) = refusal_members number word

abbrev pub summary_line : Line → List ℕ
summary_line line = json_line (object_of (name_members line.name ++ summary_members line.summary))

-- Changes.

-- a flight, and its Rows in the day and by a scenario, null where it has none
abbrev pub change_members : CalendarDate → List ℕ → Option Row → Option Row → List (List ℕ × Json)
change_members day name before after =
    (codes "flight", string name) ∷ (codes "before", or_null (row_json day) before) ∷ (codes "after", or_null (row_json day) after) ∷ []

abbrev pub change_line : CalendarDate → List Row → List Row → Standing → List ℕ
change_line day before after s =
    json_line (object_of (change_members day (flight_name s) (row_named before (flight_name s)) (row_named after (flight_name s))))

-- the Rows of a day's flights by its plan
pub record AreDayRows (d : DayRecord) (rows : List Row) : Type 0 where
  pub plan : Plan
  pub of_day : IsDayPlan d plan
  pub are_rows : AreRows d plan rows

-- each flight that stands otherwise, with its Rows in the day and in that with all updates of a scenario
abbrev pub AreChangeLines : DayRecord → DayRecord → List ℕ → Type 0
AreChangeLines d next text =
    (changed : List Standing) × IsChangedTo d next changed × (before : List Row) × AreDayRows d before × (after : List Row) × AreDayRows next after
    × (text ≡ flat_map (change_line d.airport.day before after) changed)

-- nothing where no scenario is asked for
abbrev pub AreChangeLinesIf : DayRecord → Option DayRecord → List ℕ → Type 0
AreChangeLinesIf d None text = text ≡ []
AreChangeLinesIf d (Some next) text = AreChangeLines d next text

-- a line for the day and one for each scenario, the best first, and then what changes by the one asked for
pub record IsComparisonJson (d : DayRecord) (scenarios : List ScenarioRecord) (asked : Option DayRecord) (text : List ℕ) : Type 0 where
  pub stood : List Standing
  pub ranked : List Line
  pub lines : AreRanked d (map as_it_is scenarios) stood ranked
  pub told : List ℕ
  pub of_asked : AreChangeLinesIf d asked told
  pub bytes : text ≡ flat_map summary_line ranked ++ told
