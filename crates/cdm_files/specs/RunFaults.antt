-- What each fault of a run says.
use Rattle.std.specs.Prelude.{◌≡◌, ℕ, Bool, true, false, List, IfSome, Result, Err, IsOk}
use Rattle.std.specs.Result.{IsOkAnd}
use Rattle.cdm_flight.specs.declared.word.RefusalWord.{RefusalWord}
use Rattle.cdm_scenario.specs.Scenarios.{ScenarioRecord}
use Rattle.cdm_files.specs.AirportFile.{airport_in}
use Rattle.cdm_files.specs.CommonFaults.{IsAirportFault, IsFirstCommonFault}
use Rattle.cdm_files.specs.Readings.{AreRead, Reading}
use Rattle.cdm_files.specs.ScenarioFile.{scenarios_in}
use Rattle.cdm_files.specs.declared.common_fault.CommonFault.TheVariants as common
use Rattle.cdm_files.specs.declared.run_error.RunError.{RunError}
use Rattle.cdm_files.specs.declared.run_error.RunError.TheVariants as error

-- the airport file is accepted, and what the scenario file says for its day is so
abbrev pub Asks : (Result (List ScenarioRecord) (ℕ × RefusalWord) → Type 0) → List ℕ → List ℕ → Type 0
Asks Said airport scenarios = IsOkAnd (airport_in airport) (λ g. Said (scenarios_in g.day scenarios))

-- why whole inputs make no day with scenarios: their first faulty record, of the airport file or else of the scenario
-- file, or want of memory
abbrev pub IsRecordFault : List ℕ → List ℕ → RunError → Type 0
IsRecordFault airport scenarios (error.Common fault) = IsAirportFault airport fault
IsRecordFault airport scenarios (error.Scenario number word) = Asks (λ said. said ≡ Err (number, word)) airport scenarios
IsRecordFault airport scenarios fault = ⊥

-- the first fault of a run that makes a report: after the records of the airport file those of the scenario file are
-- asked, and then the text is made
abbrev pub IsFirstFault : Reading → Reading → Reading → RunError → Type 0
IsFirstFault a f s (error.Common fault) = IsFirstCommonFault a f s (IfSome a.before (λ airport. IfSome s.before (Asks IsOk airport))) fault
IsFirstFault a f s (error.Scenario number word) =
    AreRead a f s × IfSome a.before (λ airport. IfSome s.before (Asks (λ said. said ≡ Err (number, word)) airport))
IsFirstFault a f s fault = ⊥

-- the writer failed
abbrev pub is_write_fault : {T : Type 0} → Result T RunError → Bool
is_write_fault (Err (error.Common common.Write)) = true
is_write_fault r = false
