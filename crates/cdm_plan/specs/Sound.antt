-- What every day keeps whose updates were accepted one after another.
use Rattle.std.specs.Prelude.{◌≡◌, ℕ, ◌≤◌, List, [], length, true, false, Some}
use Rattle.std.specs.FinMap as map_of
use Rattle.std.specs.List.{IsDistinct}
use Rattle.std.specs.Set.{is_member}
use Rattle.cdm_flight.specs.declared.place.Place.{Place}
use Rattle.cdm_flight.specs.declared.update.Update.{Update}
use Rattle.cdm_flight.specs.Names.{same_name}
use Rattle.cdm_flight.specs.Taxi.{TaxiRows}
use Rattle.cdm_flight.specs.Journal.{AirportRows, of_flight, is_known, runway_of, taxi_of}
use Rattle.cdm_flight.specs.Accepted.{has_runway, stands_with_rows}
use Rattle.cdm_taxi.specs.Stands.{has_row}
use Rattle.cdm_plan.specs.Airport.{IsAirport}
use Rattle.cdm_plan.specs.Day.{DayRecord, flights_in}

pub record IsSound (d : DayRecord) : Type 0 where
  pub airport : IsAirport d.airport
  -- no update of a flight came before its FLT
  pub silent : (f : List ℕ) → is_known d.journal f ≡ false → of_flight f d.journal ≡ []
  pub short : length d.journal ≤ 20000
  -- each flight was made known once, and not too many were
  pub names : IsDistinct same_name (flights_in d.journal)
  pub few : length (flights_in d.journal) ≤ 2000
  -- none has a runway that the airport hasn't
  pub runways : (f r : List ℕ) → runway_of d.journal f ≡ Some r → has_runway d.airport r ≡ true

-- the table of taxi times says what the airport and the journal say of them
pub record TellTaxi (g : AirportRows) (a : List Update) (taxi : TaxiRows) : Type 0 where
  pub minutes : (place : Place) (r : List ℕ) → map_of.get taxi (place, r) ≡ taxi_of g a place r
  pub stands : (q : List ℕ) → has_row taxi q ≡ is_member same_name (stands_with_rows g a) q
