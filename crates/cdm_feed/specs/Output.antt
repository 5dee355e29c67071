-- What a run writes that makes a report, and what it counts.
use Rattle.std.specs.Prelude.{◌≡◌, ℕ, List, ◌++◌, length, Ok}
use Rattle.std.specs.List.{AllZip, concat}
use Rattle.cdm_flight.specs.Journal.{AirportRows}
use Rattle.cdm_flight.specs.declared.word.RefusalWord.{RefusalWord}
use Rattle.cdm_sequence.specs.declared.plan.Plan.{Plan}
use Rattle.cdm_report.specs.Counts.{counts_of}
use Rattle.cdm_report.specs.Report.{report_bytes}
use Rattle.cdm_plan.specs.Day.{DayRecord}
use Rattle.cdm_plan.specs.DayPlan.{IsDayPlan}
use Rattle.cdm_scenario.specs.Scenarios.{ScenarioRecord}
use Rattle.cdm_files.specs.AirportFile.{airport_in}
use Rattle.cdm_files.specs.FeedDay.{accepted_in, day_in, refusals_in}
use Rattle.cdm_files.specs.ScenarioFile.{scenarios_in}
use Rattle.cdm_feed.specs.Answers.{IsAnswer}
use Rattle.cdm_feed.specs.declared.runs.RunCounts.{RunCounts}

-- the text is the report of the day and of the feed's refused records, and then the answer to each
-- scenario over that day
pub record IsReport (d : DayRecord) (refused : List (ℕ × RefusalWord)) (scenarios : List ScenarioRecord) (text : List ℕ) : Type 0 where
  pub plan : Plan
  pub of_day : IsDayPlan d plan
  pub answers : List (List ℕ)
  pub of_scenarios : AllZip (IsAnswer d (counts_of plan)) scenarios answers
  pub bytes : text ≡ report_bytes d.airport.day plan refused ++ concat answers

-- the bytes of an airport file, of a feed and of a scenario file make the text of which this is said, and these are
-- counted: the accepted updates, the refused records and the scenarios
pub record IsMadeBy (IsText : AirportRows → List ℕ → List ScenarioRecord → List ℕ → Type 0) (airport feed scenarios text : List ℕ) (counts : RunCounts) : Type 0 where
  pub rows : AirportRows
  pub airport_file : airport_in airport ≡ Ok rows
  pub questions : List ScenarioRecord
  pub scenario_file : scenarios_in rows.day scenarios ≡ Ok questions
  pub made : IsText rows feed questions text
  pub counted : counts ≡ record { accepted = length (accepted_in rows feed); refused = length (refusals_in rows feed); scenarios = length questions }

-- the text that is written for the bytes of an airport file, of a feed and of a scenario file, and what is
-- counted
abbrev pub IsOutput : List ℕ → List ℕ → List ℕ → List ℕ → RunCounts → Type 0
IsOutput = IsMadeBy (λ g feed. IsReport (day_in g feed) (refusals_in g feed))

-- the bytes of an airport file, of a feed and of a scenario file have one text at most
abbrev pub HaveOneText : List ℕ → List ℕ → List ℕ → Type 0
HaveOneText a f s = (x y : List ℕ) (c d : RunCounts) → IsOutput a f s x c → IsOutput a f s y d → x ≡ y
