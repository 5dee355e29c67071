-- What is known of a day's flights.
use Rattle.std.specs.Prelude.{All, IsTrue}
use Rattle.cdm_flight.specs.Record.{is_sound}
use Rattle.cdm_plan.specs.Day.{DayRecord}
use Rattle.cdm_plan.specs.DayPlan.{records_in}
use Rattle.cdm_plan.specs.Sound.{IsSound}

-- the day is sound, and so is each of its flights
pub record AllSound (d : DayRecord) : Type 0 where
  pub day : IsSound d
  pub flights : All (λ f. IsTrue (is_sound f.runway f.status)) (records_in d.airport d.journal)
