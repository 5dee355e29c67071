-- What is written of a scenario.
use Rattle.std.specs.Prelude.{◌≡◌, ℕ, List, [], ◌∷◌, ◌++◌, codes}
use Rattle.std.specs.List.{concat}
use Rattle.cdm_time.specs.declared.calendar.CalendarDate.{CalendarDate}
use Rattle.cdm_report.specs.Delta.{delta_line}
use Rattle.cdm_report.specs.Report.{line_end, refused_line, report_bytes}
use Rattle.cdm_report.specs.declared.counts.Counts.{Counts}
use Rattle.cdm_plan.specs.Day.{DayRecord}
use Rattle.cdm_scenario.specs.Outcome.{IsOutcome}
use Rattle.cdm_scenario.specs.Scenarios.{ScenarioRecord}
use Rattle.cdm_scenario.specs.declared.outcome.Outcome.{Outcome}
use Rattle.cdm_scenario.specs.declared.outcome.Outcome.TheVariants.{Planned, Refused}

-- what becomes of a day, beside what the day itself counts: the report with all updates of a scenario, and
-- by how much each indicator grew; or the number of the first update that is refused, and its word
unfoldable pub outcome_text : CalendarDate → Counts → Outcome → List ℕ
outcome_text day base (Planned plan counts) = report_bytes day plan [] ++ delta_line base counts
outcome_text day base (Refused number word) = refused_line (number, word)

-- the text names the scenario and says what becomes of the day by it, where the day itself counts `base`
pub record IsAnswer (d : DayRecord) (base : Counts) (scenario : ScenarioRecord) (text : List ℕ) : Type 0 where
  pub outcome : Outcome
  pub of_day : IsOutcome d scenario.updates outcome
  pub bytes : text ≡ concat (codes "SCENARIO " ∷ scenario.name ∷ line_end ∷ []) ++ outcome_text d.airport.day base outcome
