-- What each thing is once a change was put in.
use Rattle.std.specs.Prelude.{ℕ, if◌then◌else◌, List, [], ◌∷◌, Option, Some}
use Rattle.std.specs.FinMap.{insert}
use Rattle.cdm_flight.specs.declared.values.DayValues.{DayValues}
use Rattle.cdm_flight.specs.Names.{same_name}
use Rattle.cdm_flight.specs.declared.flight.Flight.{Flight}
use Rattle.cdm_flight.specs.Taxi.{TaxiRows}
use Rattle.cdm_runway.specs.Rules.{RunwayRules}
use Rattle.cdm_day.specs.Changes.{with_change}
use Rattle.cdm_day.specs.declared.change.Change.{Change}
use Rattle.cdm_day.specs.declared.change.Change.TheVariants.{NewFlight, NextRecord, Runway, TaxiRow, Values}
use Rattle.cdm_day.specs.declared.change.RunwayChange.{RunwayChange}

-- what is known of a flight
abbrev pub flight_with : Change → List ℕ → Option Flight → Option Flight
flight_with (NewFlight r) f known = if same_name r.name f then Some r else known
flight_with (NextRecord r) f known = if same_name r.name f then Some r else known
flight_with _ f known = known

-- the flight that becomes known
abbrev pub made_known : Change → List (List ℕ)
made_known (NewFlight r) = r.name ∷ []
made_known _ = []

-- a runway, where the change is of the one of that name
abbrev pub if_named : List ℕ → RunwayChange → RunwayRules → RunwayRules
if_named r change rules = if same_name rules.name r then with_change change rules else rules

abbrev pub rules_with : Change → RunwayRules → RunwayRules
rules_with (Runway r change) rules = if_named r change rules
rules_with _ rules = rules

-- the taxi times
abbrev pub rows_with : Change → TaxiRows → TaxiRows
rows_with (TaxiRow place r minutes) rows = insert rows (place, r) minutes
rows_with _ rows = rows

abbrev pub values_with : Change → DayValues → DayValues
values_with (Values values) before = values
values_with _ before = before
