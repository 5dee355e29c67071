-- Lines of scenarios behind a text.
use Rattle.std.specs.Prelude.{◌≡◌, ℕ, List, ◌++◌}
use Rattle.std.specs.List.{AllZip, concat}
use Rattle.cdm_plan.specs.Day.{DayRecord}
use Rattle.cdm_scenario.specs.Scenarios.{ScenarioRecord}
use Rattle.cdm_table.specs.Plans.{IsScenarioLine}

-- the text after it has that before it, and then the line of each scenario
pub record HasLinesOf (d : DayRecord) (scenarios : List ScenarioRecord) (before after : List ℕ) : Type 0 where
  pub answers : List (List ℕ)
  pub of_scenarios : AllZip (IsScenarioLine d) scenarios answers
  pub bytes : after ≡ before ++ concat answers
