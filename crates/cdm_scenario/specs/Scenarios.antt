-- A scenario as contracts see it: its name and its updates.
use Rattle.std.specs.Prelude.{ℕ, List, [], Option}
use Rattle.std.specs.List.{find}
use Rattle.cdm_flight.specs.Names.{same_name}
use Rattle.cdm_flight.specs.declared.update.Update.{Update}

-- a name, and the updates that would come
pub record ScenarioRecord : Type 0 where
  pub name : List ℕ
  pub updates : List Update

-- a scenario without updates
abbrev pub empty_scenario : List ℕ → ScenarioRecord
empty_scenario name = record { name = name; updates = [] }

-- the first scenario of this name
abbrev pub scenario_named : List ScenarioRecord → List ℕ → Option ScenarioRecord
scenario_named scenarios name = find (λ s. same_name s.name name) scenarios
