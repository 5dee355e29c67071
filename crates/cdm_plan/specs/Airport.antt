-- What every airport keeps of its runways and its taxi rows.
use Rattle.std.specs.Prelude.{◌≡◌, ℕ, ◌≤◌, true, List, length, map, is_some}
use Rattle.std.specs.FinMap as map_of
use Rattle.std.specs.List.{IsDistinct}
use Rattle.cdm_flight.specs.declared.place.Place.{Place}
use Rattle.cdm_flight.specs.Names.{same_name}
use Rattle.cdm_flight.specs.Journal.{AirportRows}
use Rattle.cdm_flight.specs.Accepted.{has_runway}
use Rattle.cdm_taxi.specs.Stands.{stand_count}

-- the names of the airport's runways
abbrev pub runway_names : AirportRows → List (List ℕ)
runway_names g = map (λ row. row.name) g.runways

-- what every airport keeps
pub record IsAirport (g : AirportRows) : Type 0 where
  -- at most 8 runways, of different names
  pub names : IsDistinct same_name (runway_names g)
  pub few : length g.runways ≤ 8
  -- taxi times to its own runways, of at most 400 stands
  pub known : (place : Place) (r : List ℕ) → is_some (map_of.get g.taxi (place, r)) ≡ true → has_runway g r ≡ true
  pub stands : stand_count g.taxi ≤ 400
