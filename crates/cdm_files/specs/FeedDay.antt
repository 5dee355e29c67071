-- The day that an airport and a feed make.
use Rattle.std.specs.Prelude.{ℕ, List, [], map}
use Rattle.cdm_flight.specs.Accepted.{accepted}
use Rattle.cdm_flight.specs.Journal.{AirportRows}
use Rattle.cdm_flight.specs.declared.update.Update.{Update}
use Rattle.cdm_flight.specs.declared.word.RefusalWord.{RefusalWord}
use Rattle.cdm_plan.specs.Day.{DayRecord}
use Rattle.cdm_files.specs.Parsing.{parse_of}
use Rattle.cdm_files.specs.Records.{records_of}
use Rattle.cdm_files.specs.Refused.{Spelled, updates_in, refused_in}

-- what each record of a feed spells
abbrev pub spelled_in : AirportRows → List ℕ → List Spelled
spelled_in g feed = map (parse_of g.day) (records_of feed)

-- the updates of a feed that are accepted, in order
unfoldable pub accepted_in : AirportRows → List ℕ → List Update
accepted_in g feed = accepted g [] (updates_in (spelled_in g feed))

-- the refused records of a feed, by number
unfoldable pub refusals_in : AirportRows → List ℕ → List (ℕ × RefusalWord)
refusals_in g feed = refused_in g [] 1 (spelled_in g feed)

-- the day that an airport and the accepted updates of a feed make
abbrev pub day_in : AirportRows → List ℕ → DayRecord
day_in g feed = record { airport = g; journal = accepted_in g feed }
