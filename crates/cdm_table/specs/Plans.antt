-- The plans of a day and of its scenarios as JSON.
use Rattle.std.specs.Prelude.{◌≡◌, ℕ, List, [], ◌∷◌, ◌++◌, codes}
use Rattle.std.specs.List.{AllZip, concat}
use Rattle.json.specs.Json.{Json, string}
use Rattle.cdm_flight.specs.Words.{text_of}
use Rattle.cdm_flight.specs.declared.word.RefusalWord.{RefusalWord}
use Rattle.cdm_sequence.specs.declared.plan.Plan.{Plan}
use Rattle.cdm_plan.specs.Day.{DayRecord}
use Rattle.cdm_plan.specs.DayPlan.{IsDayPlan}
use Rattle.cdm_row.specs.Json.{count_json, object_of}
use Rattle.cdm_scenario.specs.Outcome.{IsOutcome}
use Rattle.cdm_scenario.specs.Overlay.{with_updates}
use Rattle.cdm_scenario.specs.Scenarios.{ScenarioRecord}
use Rattle.cdm_scenario.specs.declared.outcome.Outcome.{Outcome}
use Rattle.cdm_scenario.specs.declared.outcome.Outcome.TheVariants.{Planned, Refused}
use Rattle.cdm_json.specs.Lines.{json_line}
use Rattle.cdm_json.specs.Plans.{IsPlanLine}
use Rattle.cdm_json.specs.declared.plan.PlanOf.TheVariants as of

-- the number of the first update that is refused, from 1, and its word
abbrev pub refusal_members : ℕ → RefusalWord → List (List ℕ × Json)
refusal_members number word = (codes "update", count_json number) ∷ (codes "word", string (text_of word)) ∷ []

-- the line of a scenario that is refused
abbrev pub refusal_line : List ℕ → ℕ → RefusalWord → List ℕ
refusal_line name number word = json_line (object_of ((codes "scenario", string name) ∷ refusal_members number word))

-- what comes of the day by a scenario: the line of its plan, or of the first refusal
abbrev pub IsLineBy : DayRecord → ScenarioRecord → Outcome → List ℕ → Type 0
IsLineBy d s (Planned plan counts) line = IsPlanLine (with_updates d s.updates) (of.Scenario s.name) plan [] line
IsLineBy d s (Refused number word) line = line ≡ refusal_line s.name number word

abbrev pub IsScenarioLine : DayRecord → ScenarioRecord → List ℕ → Type 0
IsScenarioLine d s line = (o : Outcome) × IsOutcome d s.updates o × IsLineBy d s o line

-- the line of the day's plan with the records that were refused, and then that of each scenario
pub record IsPlans (d : DayRecord) (refused : List (ℕ × RefusalWord)) (scenarios : List ScenarioRecord) (text : List ℕ) : Type 0 where
  pub plan : Plan
  pub of_day : IsDayPlan d plan
  pub own : List ℕ
  pub line : IsPlanLine d of.Day plan refused own
  pub answers : List (List ℕ)
  pub of_scenarios : AllZip (IsScenarioLine d) scenarios answers
  pub bytes : text ≡ own ++ concat answers
