-- Why nothing carries a day over.
use Rattle.std.specs.Prelude.{◌≡◌, ℕ, List, Ok, Err}
use Rattle.cdm_flight.specs.Journal.{AirportRows}
use Rattle.cdm_flight.specs.declared.word.RefusalWord.{RefusalWord}
use Rattle.cdm_files.specs.AirportFile.{airport_in}
use Rattle.cdm_files.specs.CommonFaults.{IsAirportFault}
use Rattle.cdm_files.specs.declared.days_apart.DaysApart.{DaysApart}
use Rattle.cdm_files.specs.declared.run_error.RunError.{RunError}
use Rattle.cdm_files.specs.declared.run_error.RunError.TheVariants as error
use Rattle.cdm_carry.specs.CarriedFeed.{IsNextDay}

-- the airport file is accepted, and this is the first faulty record of the next one
abbrev pub IsFaultyNext : ℕ → RefusalWord → List ℕ → List ℕ → Type 0
IsFaultyNext number word airport next = (g : AirportRows) × (airport_in airport ≡ Ok g) × (airport_in next ≡ Err (number, word))

-- both airport files are accepted, and these are their days, of which the second isn't the day after the first
abbrev pub AreDaysApart : DaysApart → List ℕ → List ℕ → Type 0
AreDaysApart days airport next =
    (g h : AirportRows) × (airport_in airport ≡ Ok g) × (airport_in next ≡ Ok h)
    × (days ≡ record { day = g.day; next = h.day }) × (¬ IsNextDay g.day h.day)

-- why an airport file and the next one make nothing: their first faulty record, of the airport file or else of the next one, or else
-- their days, or want of memory
abbrev pub IsUncarried : List ℕ → List ℕ → RunError → Type 0
IsUncarried airport next (error.Common fault) = IsAirportFault airport fault
IsUncarried airport next (error.NextAirport number word) = IsFaultyNext number word airport next
IsUncarried airport next (error.NextDay days) = AreDaysApart days airport next
IsUncarried airport next fault = ⊥
