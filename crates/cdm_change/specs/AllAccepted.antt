-- The next airport accepts all that is carried.
use Rattle.std.specs.Prelude.{◌≡◌, ℕ, List, [], Ok}
use Rattle.cdm_flight.specs.declared.role.Role.{Role}
use Rattle.cdm_flight.specs.declared.update.Update.{Update}
use Rattle.cdm_flight.specs.Accepted.{accepted}
use Rattle.cdm_flight.specs.Journal.{AirportRows}
use Rattle.cdm_files.specs.AirportFile.{airport_in}
use Rattle.cdm_carry.specs.Carry.{carried_all, carry, taken}
use Rattle.cdm_change.specs.NextDay.{next_journal}
use Rattle.cdm_change.specs.Unnoticed.{IsSameAirport}

-- what goes on is each record that is carried, and the next day's journal has each of them
pub record AreAllAccepted (g : AirportRows) (records : List (Role × Update)) (h : AirportRows) : Type 0 where
  pub carried : carry g records h ≡ carried_all (accepted g [] records) (taken g [] records)
  pub journal : accepted h [] (carry g records h) ≡ next_journal (accepted g [] records)

-- an airport with the rows of an airport that a file says accepts all
abbrev pub AllAccepted : Type 0
AllAccepted = (text : List ℕ) (g h : AirportRows) (records : List (Role × Update)) → airport_in text ≡ Ok g → IsSameAirport g h → AreAllAccepted g records h
