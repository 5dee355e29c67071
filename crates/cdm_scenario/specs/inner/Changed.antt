-- What is laid over a day says what its longer journal says.
use Rattle.std.specs.Prelude.{◌≡◌, ℕ, ◌++◌, List, Option, None, Some, unwrap_or}
use Rattle.std.specs.Option.{option_or}
use Rattle.std.specs.List.{Contains}
use Rattle.std.specs.declared.hash.FoldHasher.{FoldHasher}
use Rattle.std.specs.declared.hash.BuildHasherDefault.{BuildHasherDefault}
use Rattle.indexmap.specs.IndexMap.{IndexMap, get}
use Rattle.cdm_flight.specs.declared.airport.RunwayRow.{RunwayRow}
use Rattle.cdm_flight.specs.declared.update.Update.{Update}
use Rattle.cdm_flight.specs.declared.values.DayValues.{DayValues}
use Rattle.cdm_flight.specs.Names.{same_name}
use Rattle.cdm_flight.specs.Taxi.{TaxiRows}
use Rattle.cdm_flight.specs.Journal.{AirportRows, flight_of, values_of}
use Rattle.cdm_runway.specs.Rules.{RunwayRules}
use Rattle.cdm_plan.specs.Day.{flights_in, rules_of}
use Rattle.cdm_plan.specs.Sound.{IsSound, TellTaxi}
use Rattle.cdm_day.specs.inner.Tables.{Flights}

-- runways by name
abbrev pub Runways : Type 0
Runways = IndexMap (List ℕ) RunwayRules (BuildHasherDefault FoldHasher)

-- taxi times of its own, if it has some, are those of the longer journal, and else the base's are
abbrev pub TaxiOver : AirportRows → List Update → List Update → Option TaxiRows → Type 0
TaxiOver g a e None = (base : TaxiRows) → TellTaxi g a base → TellTaxi g e base
TaxiOver g a e (Some own) = TellTaxi g e own

-- over what the journal a says, it says what the longer journal e says
pub record TellChanged (g : AirportRows) (a e : List Update) (changed : Flights) (new : List (List ℕ)) (own : Runways) (rows : Option TaxiRows)
    (values : DayValues) : Type 0 where
  pub sound : IsSound (record { airport = g; journal = e })
  -- the flights that have a record of their own, and the others
  pub flights : (f : List ℕ) → flight_of g e f ≡ option_or (get same_name changed f) (flight_of g a f)
  -- the new flights stand behind the others
  pub order : flights_in e ≡ flights_in a ++ new
  -- the runways that have one of their own, and the others
  pub runways : (row : RunwayRow) → Contains g.runways row → rules_of g e row ≡ unwrap_or (get same_name own row.name) (rules_of g a row)
  pub taxi : TaxiOver g a e rows
  pub day : values ≡ values_of e
