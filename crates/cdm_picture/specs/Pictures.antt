-- The picture of a day and of scenarios over it.
use Rattle.std.specs.Prelude.{◌≡◌, ℕ, List, ◌∷◌}
use Rattle.std.specs.List.{AllZip}
use Rattle.cdm_report.specs.Report.{day_line}
use Rattle.cdm_sequence.specs.declared.plan.Plan.{Plan}
use Rattle.cdm_plan.specs.Day.{DayRecord}
use Rattle.cdm_plan.specs.DayPlan.{IsDayPlan}
use Rattle.cdm_scenario.specs.Outcome.{IsOutcome}
use Rattle.cdm_scenario.specs.Scenarios.{ScenarioRecord}
use Rattle.cdm_scenario.specs.declared.outcome.Outcome.{Outcome}
use Rattle.cdm_scenario.specs.declared.outcome.Outcome.TheVariants.{Planned, Refused}
use Rattle.cdm_picture.specs.Sections.{IsEmpty, ShowsPlan, refused_heading, scenario_heading}
use Rattle.cdm_picture.specs.Svg.{picture_text}
use Rattle.cdm_picture.specs.declared.hours.Hours.{Hours}
use Rattle.cdm_picture.specs.declared.marks.Section.{Section}
use Rattle.cdm_picture.specs.declared.shape.Shape.{Shape}

-- what is drawn of a scenario: the plan of the day with its updates, or the number of the first that is refused and the
-- word
abbrev pub ShowsOutcome : Hours → ScenarioRecord → Outcome → Section → Type 0
ShowsOutcome hours s (Planned plan counts) section = (section.heading ≡ scenario_heading s.name) × ShowsPlan hours plan section
ShowsOutcome hours s (Refused number word) section = (section.heading ≡ refused_heading s.name number word) × IsEmpty section

abbrev pub IsScenarioDrawn : DayRecord → Hours → ScenarioRecord → Section → Type 0
IsScenarioDrawn d hours s section = (o : Outcome) × IsOutcome d s.updates o × ShowsOutcome hours s o section

-- the text is SVG of the day itself, and of each scenario beneath it, over the same hours
pub record IsPicture (d : DayRecord) (scenarios : List ScenarioRecord) (text : List ℕ) : Type 0 where
  pub plan : Plan
  pub of_day : IsDayPlan d plan
  pub hours : Hours
  pub own : Section
  pub heading : own.heading ≡ day_line d.airport.day plan.clock
  pub shown : ShowsPlan hours plan own
  pub others : List Section
  pub of_scenarios : AllZip (IsScenarioDrawn d hours) scenarios others
  pub height : ℕ
  pub legend : List Shape
  pub bytes : text ≡ picture_text d.airport.day height legend (own ∷ others)
