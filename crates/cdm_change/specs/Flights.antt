-- The next day has the flights that stay, as they were.
use Rattle.std.specs.Prelude.{◌≡◌, ℕ, List, [], Ok, filter, map}
use Rattle.cdm_flight.specs.declared.flight.Flight.{Flight}
use Rattle.cdm_flight.specs.declared.role.Role.{Role}
use Rattle.cdm_flight.specs.declared.update.Update.{Update}
use Rattle.cdm_flight.specs.Accepted.{accepted}
use Rattle.cdm_flight.specs.Journal.{AirportRows}
use Rattle.cdm_plan.specs.DayPlan.{records_in}
use Rattle.cdm_files.specs.AirportFile.{airport_in}
use Rattle.cdm_carry.specs.Carry.{carry, stays}
use Rattle.cdm_change.specs.NextDay.{next_flight}
use Rattle.cdm_change.specs.Unnoticed.{IsSameAirport}

-- a day's flights that stay, each with its minutes as the next day has them: all else is as it was, an EXOT that OFF has fixed too
abbrev pub going_on : AirportRows → List Update → List Flight
going_on g a = map next_flight (filter (λ f. stays a f.name) (records_in g a))

-- an airport with the rows of an airport that a file says has them behind what is carried, in their order, and no other flight
abbrev pub FlightsGoOn : Type 0
FlightsGoOn = (text : List ℕ) (g h : AirportRows) (records : List (Role × Update)) → airport_in text ≡ Ok g → IsSameAirport g h
    → records_in h (accepted h [] (carry g records h)) ≡ going_on g (accepted g [] records)
