-- The scenarios that a file says.
use Rattle.std.specs.Prelude.{ℕ, ◌-◌, List, [], ◌∷◌, ◌++◌, length, nat_le, set, slice_get, ok_or, Result, Ok, Err, if◌then◌else◌}
use Rattle.std.specs.List.{list_any}
use Rattle.cdm_time.specs.declared.calendar.CalendarDate.{CalendarDate}
use Rattle.cdm_flight.specs.Names.{same_name}
use Rattle.cdm_flight.specs.declared.word.RefusalWord.{RefusalWord}
use Rattle.cdm_flight.specs.declared.word.RefusalWord.TheVariants as word
use Rattle.cdm_scenario.specs.Scenarios.{ScenarioRecord}
use Rattle.cdm_files.specs.Fields.{and_then}
use Rattle.cdm_files.specs.Files.{after_records}
use Rattle.cdm_files.specs.Records.{records_of}
use Rattle.cdm_files.specs.ScenarioRecords.{scenario_line_of}
use Rattle.cdm_files.specs.declared.scenario_record.ScenarioLine.{ScenarioLine}
use Rattle.cdm_files.specs.declared.scenario_record.ScenarioLine.TheVariants.{Begin, Next}

-- the scenarios after what one more record says: one more scenario, where EXISTS refuses a name that was used before and FULL a 65th
-- scenario, or one more update of the last scenario, where ORDER refuses it if there is none and FULL if it is the 65th
unfoldable pub with_line : List ScenarioRecord → ScenarioLine → Result (List ScenarioRecord) RefusalWord
with_line scenarios (Begin name) =
    if list_any (λ s. same_name s.name name) scenarios then Err word.Exists
    else if nat_le 64 (length scenarios) then Err word.Full
    else Ok (scenarios ++ record { name = name; updates = [] } ∷ [])
with_line scenarios (Next update) =
    and_then (ok_or (slice_get scenarios (length scenarios - 1)) word.Order) (λ s. if nat_le 64 (length s.updates) then Err word.Full
    else Ok (set scenarios (length scenarios - 1) (record s { updates = s.updates ++ update ∷ [] })))

-- the scenarios that a file says, or the number and the word of its first faulty record
unfoldable pub scenarios_in : CalendarDate → List ℕ → Result (List ScenarioRecord) (ℕ × RefusalWord)
scenarios_in day text = after_records (scenario_line_of day) with_line [] 1 (records_of text)
