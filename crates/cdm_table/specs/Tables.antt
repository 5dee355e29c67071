-- Tables over a day and its scenarios.
use Rattle.std.specs.Prelude.{◌≡◌, ⊤, ℕ, ◌+◌, List, [], ◌∷◌, codes, length, Option, None, Some, Ok, Err, if◌then◌else◌, is_none}
use Rattle.std.specs.Option.{IsSomeAnd, option_and_then, option_map}
use Rattle.cdm_flight.specs.Names.{same_name}
use Rattle.cdm_flight.specs.declared.word.RefusalWord.{RefusalWord}
use Rattle.cdm_plan.specs.Day.{DayRecord}
use Rattle.cdm_scenario.specs.Outcome.{IsLaid}
use Rattle.cdm_scenario.specs.Overlay.{with_updates}
use Rattle.cdm_scenario.specs.Scenarios.{ScenarioRecord, scenario_named}
use Rattle.cdm_table.specs.Comparison.{IsComparison, IsComparisonCsv}
use Rattle.cdm_table.specs.ComparisonJson.{IsComparisonJson}
use Rattle.cdm_table.specs.Rows.{IsCsv}
use Rattle.cdm_table.specs.Steps.{steps_of}
use Rattle.cdm_table.specs.Sweep.{IsSweep, IsSweepJson}
use Rattle.cdm_table.specs.declared.each.Each.{Each}
use Rattle.cdm_table.specs.declared.table.Table.{Table}
use Rattle.cdm_table.specs.declared.table.Table.TheVariants.{Csv, Comparison, ComparisonCsv, ComparisonJson, Sweep, SweepJson}
use Rattle.cdm_table.specs.declared.table.TableFault.{TableFault}
use Rattle.cdm_table.specs.declared.table.TableFault.TheVariants.{NamedAsDay, NoScenario, OtherDay, Refused, Memory}

-- a comparison has a hyphen for the day itself, so no scenario may have this name: the number of the record that gives it to one, where
-- these scenarios begin at the record of this number
unfoldable pub named_as_day : ℕ → List ScenarioRecord → Option ℕ
named_as_day number [] = None
named_as_day number (s ∷ scenarios) =
    if same_name s.name (codes "-") then Some number else named_as_day (number + (1 + length s.updates)) scenarios

-- the scenario that is asked for, if it is none of these
abbrev pub unknown_in : List ScenarioRecord → Option (List ℕ) → Option (List ℕ)
unknown_in scenarios (Some name) = if is_none (scenario_named scenarios name) then Some name else None
unknown_in scenarios None = None

-- the scenario that is asked for, if one is
abbrev pub asked_of : List ScenarioRecord → Option (List ℕ) → Option ScenarioRecord
asked_of scenarios asked = option_and_then (scenario_named scenarios) asked

-- it is known, and no word refuses one of its updates
abbrev pub IsLaidIf : DayRecord → Option ScenarioRecord → Type 0
IsLaidIf d None = ⊤
IsLaidIf d (Some s) = IsLaid d s.updates (Ok (with_updates d s.updates))

abbrev pub IsAsked : DayRecord → List ScenarioRecord → Option (List ℕ) → Type 0
IsAsked d scenarios asked = (unknown_in scenarios asked ≡ None) × IsLaidIf d (asked_of scenarios asked)

-- the day with all updates of the scenario that is asked for, if one is
abbrev pub day_by : DayRecord → ScenarioRecord → DayRecord
day_by d s = with_updates d s.updates

abbrev pub asked_day : DayRecord → List ScenarioRecord → Option (List ℕ) → Option DayRecord
asked_day d scenarios asked = option_map (day_by d) (asked_of scenarios asked)

-- the text is the table of the day and these scenarios, among which is the one asked for
abbrev pub IsTable : Table → DayRecord → List ScenarioRecord → List ℕ → Type 0
IsTable Csv d scenarios text = IsCsv d scenarios text
IsTable (Comparison asked) d scenarios text =
    (named_as_day 1 scenarios ≡ None) × IsAsked d scenarios asked × IsComparison d scenarios (asked_day d scenarios asked) text
IsTable ComparisonCsv d scenarios text = (named_as_day 1 scenarios ≡ None) × IsComparisonCsv d scenarios text
IsTable (ComparisonJson asked) d scenarios text =
    (named_as_day 1 scenarios ≡ None) × IsAsked d scenarios asked × IsComparisonJson d scenarios (asked_day d scenarios asked) text
IsTable (Sweep each) d scenarios text =
    (named_as_day 1 scenarios ≡ None) × IsSomeAnd (steps_of d.airport.day each) (λ minutes. IsSweep d scenarios minutes text)
IsTable (SweepJson each) d scenarios text =
    (named_as_day 1 scenarios ≡ None) × IsSomeAnd (steps_of d.airport.day each) (λ minutes. IsSweepJson d scenarios minutes text)

-- an update of the scenario that is asked for is refused: the first of them, by its number, and its word
abbrev pub IsRefusal : DayRecord → List ℕ → ℕ → RefusalWord → ScenarioRecord → Type 0
IsRefusal d name number word s = (name ≡ s.name) × IsLaid d s.updates (Err (number, word))

-- a scenario has the day's name, or there was no memory
abbrev pub IsNameFault : List ScenarioRecord → TableFault → Type 0
IsNameFault scenarios (NamedAsDay number) = named_as_day 1 scenarios ≡ Some number
IsNameFault scenarios Memory = ⊤
IsNameFault scenarios fault = ⊥

-- the scenario asked for is unknown or refused, a scenario has the day's name, or there was no memory
abbrev pub IsFaultOf : DayRecord → List ScenarioRecord → Option (List ℕ) → TableFault → Type 0
IsFaultOf d scenarios asked (NamedAsDay number) = (unknown_in scenarios asked ≡ None) × IsNameFault scenarios (NamedAsDay number)
IsFaultOf d scenarios asked (NoScenario name) = unknown_in scenarios asked ≡ Some name
IsFaultOf d scenarios asked OtherDay = ⊥
IsFaultOf d scenarios asked (Refused name number word) = IsSomeAnd (asked_of scenarios asked) (IsRefusal d name number word)
IsFaultOf d scenarios asked Memory = unknown_in scenarios asked ≡ None

-- a step is a time of another day, a scenario has the day's name, or there was no memory
abbrev pub IsStepFault : DayRecord → List ScenarioRecord → Each → TableFault → Type 0
IsStepFault d scenarios each OtherDay = steps_of d.airport.day each ≡ None
IsStepFault d scenarios each fault = IsNameFault scenarios fault

abbrev pub IsTableFault : DayRecord → List ScenarioRecord → Table → TableFault → Type 0
IsTableFault d scenarios (Comparison asked) fault = IsFaultOf d scenarios asked fault
IsTableFault d scenarios (ComparisonJson asked) fault = IsFaultOf d scenarios asked fault
IsTableFault d scenarios ComparisonCsv fault = IsNameFault scenarios fault
IsTableFault d scenarios (Sweep each) fault = IsStepFault d scenarios each fault
IsTableFault d scenarios (SweepJson each) fault = IsStepFault d scenarios each fault
IsTableFault d scenarios Csv fault = fault ≡ Memory
