-- Scenarios that are tried at each of some minutes, side by side.
use Rattle.std.specs.Prelude.{◌≡◌, ℕ, List, [], ◌∷◌, ◌++◌, codes, flat_map, Option, unwrap_or}
use Rattle.std.specs.List.{concat}
use Rattle.json.specs.Json.{Json, string}
use Rattle.cdm_time.specs.Times.{time_text}
use Rattle.cdm_time.specs.declared.calendar.CalendarDate.{CalendarDate}
use Rattle.cdm_report.specs.Columns.{left_in, time_column}
use Rattle.cdm_report.specs.Report.{line_end}
use Rattle.cdm_plan.specs.Day.{DayRecord}
use Rattle.cdm_view.specs.declared.standing.Standing.{Standing}
use Rattle.cdm_row.specs.Json.{object_of, or_null}
use Rattle.cdm_scenario.specs.Scenarios.{ScenarioRecord}
use Rattle.cdm_json.specs.Lines.{json_line}
use Rattle.cdm_table.specs.Comparison.{AreRanked, summary_text}
use Rattle.cdm_table.specs.ComparisonJson.{name_members, summary_members}
use Rattle.cdm_table.specs.Moved.{tries_of}
use Rattle.cdm_table.specs.declared.line.Line.{Line}

-- Texts.

abbrev pub sweep_heading : List ℕ
sweep_heading = codes "SCENARIO         AT     PLACED  DELAY   MAX  LATE BLOCKED  MOVED" ++ line_end

-- a line of a comparison with its minute behind the name
unfoldable pub sweep_line : CalendarDate → Line → List ℕ
sweep_line day line = concat (
    left_in 16 (unwrap_or line.name (codes "-")) ∷ codes " " ∷ time_column day line.at ∷ codes " " ∷ summary_text line.summary ∷ line_end ∷ [])

-- a line for the day, and one for each try, the best first
pub record IsSweep (d : DayRecord) (scenarios : List ScenarioRecord) (minutes : List ℕ) (text : List ℕ) : Type 0 where
  pub before : List Standing
  pub ranked : List Line
  pub lines : AreRanked d (tries_of scenarios minutes) before ranked
  pub bytes : text ≡ sweep_heading ++ flat_map (sweep_line d.airport.day) ranked

-- As JSON.

-- the time of a try, or null where the scenario isn't moved
abbrev pub at_members : CalendarDate → Option ℕ → List (List ℕ × Json)
at_members day at = (codes "at", or_null (λ minute. string (time_text day minute)) at) ∷ []

abbrev pub sweep_json_line : CalendarDate → Line → List ℕ
sweep_json_line day line = json_line (object_of (name_members line.name ++ (at_members day line.at ++ summary_members line.summary)))

pub record IsSweepJson (d : DayRecord) (scenarios : List ScenarioRecord) (minutes : List ℕ) (text : List ℕ) : Type 0 where
  pub before : List Standing
  pub ranked : List Line
  pub lines : AreRanked d (tries_of scenarios minutes) before ranked
  pub bytes : text ≡ flat_map (sweep_json_line d.airport.day) ranked
