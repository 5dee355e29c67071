-- Why a question of a day with all updates of a scenario has no answer.
use Rattle.std.specs.Prelude.{◌≡◌, ⊤, ℕ, List, Err}
use Rattle.cdm_plan.specs.Day.{DayRecord}
use Rattle.cdm_view.specs.declared.fault.ViewFault.TheVariants as view
use Rattle.cdm_shift.specs.declared.question.DayQuestion.{DayQuestion}
use Rattle.cdm_scenario.specs.Outcome.{IsLaid}
use Rattle.cdm_scenario.specs.Scenarios.{ScenarioRecord}
use Rattle.cdm_files.specs.declared.common_fault.CommonFault.TheVariants as common
use Rattle.cdm_files.specs.declared.run_error.RunError.{RunError}
use Rattle.cdm_files.specs.declared.run_error.RunError.TheVariants as error
use Rattle.cdm_feed.specs.Made.{HasNoView}

-- a word refuses an update of the scenario, which is asked for by this name, the flight or the runway isn't known, or there is
-- no memory
abbrev pub IsUntoldOver : DayQuestion → DayRecord → List ℕ → ScenarioRecord → RunError → Type 0
IsUntoldOver question d asked s (error.Common common.Memory) = ⊤
IsUntoldOver question d asked s (error.NoFlight name) = HasNoView question (IsLaid d s.updates) (view.NoFlight name)
IsUntoldOver question d asked s (error.NoRunway name) = HasNoView question (IsLaid d s.updates) (view.NoRunway name)
IsUntoldOver question d asked s (error.Update name number word) = (name ≡ asked) × IsLaid d s.updates (Err (number, word))
IsUntoldOver question d asked s fault = ⊥
