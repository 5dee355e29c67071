-- Why a scenario makes no day.
use Rattle.std.specs.Prelude.{⊤}
use Rattle.cdm_plan.specs.Day.{DayRecord}
use Rattle.cdm_scenario.specs.Scenarios.{ScenarioRecord}
use Rattle.cdm_table.specs.Tables.{IsRefusal}
use Rattle.cdm_table.specs.declared.table.TableFault.{TableFault}
use Rattle.cdm_table.specs.declared.table.TableFault.TheVariants.{Refused, Memory}

-- one of its updates is refused, or there was no memory
abbrev pub IsRefusedOr : DayRecord → ScenarioRecord → TableFault → Type 0
IsRefusedOr d s (Refused name number word) = IsRefusal d name number word s
IsRefusedOr d s Memory = ⊤
IsRefusedOr d s fault = ⊥
