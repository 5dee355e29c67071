-- What a record of the scenario file spells: a scenario, an update, or the first word that refuses it.
use Rattle.std.specs.Prelude.{ℕ, List, drop, length, codes, bytes_eq, Result, if◌then◌else◌}
use Rattle.cdm_time.specs.declared.calendar.CalendarDate.{CalendarDate}
use Rattle.cdm_flight.specs.declared.word.RefusalWord.{RefusalWord}
use Rattle.cdm_scenario.specs.Names.{is_scenario_name}
use Rattle.cdm_files.specs.Fields.{counted, field, name_field, of_one}
use Rattle.cdm_files.specs.Kinds.{update_of}
use Rattle.cdm_files.specs.declared.scenario_record.ScenarioLine.{ScenarioLine}
use Rattle.cdm_files.specs.declared.scenario_record.ScenarioLine.TheVariants.{Begin, Next}

-- what a record spells, by its first field: a scenario, or an update, written as in the feed without the role
unfoldable pub scenario_line_of : CalendarDate → List (List ℕ) → Result ScenarioLine RefusalWord
scenario_line_of day fields =
    if bytes_eq (field fields 0) (codes "SCENARIO") then counted 2 (length fields) (of_one Begin (name_field is_scenario_name (field fields 1)))
    else of_one Next (update_of day (field fields 0) (drop 1 fields))
