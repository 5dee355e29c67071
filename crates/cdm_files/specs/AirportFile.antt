-- The airport that a file says, and what each of its records spells.
use Rattle.std.specs.Prelude.{ℕ, List, [], length, codes, bytes_eq, Option, None, Some, Result, Ok, Err, if◌then◌else◌}
use Rattle.std.specs.Option.{ok_or}
use Rattle.std.specs.FinMap as map
use Rattle.cdm_time.specs.Times.{day_of}
use Rattle.cdm_flight.specs.Cells.{is_cell_length}
use Rattle.cdm_flight.specs.declared.word.RefusalWord.{RefusalWord}
use Rattle.cdm_flight.specs.declared.word.RefusalWord.TheVariants as word
use Rattle.cdm_flight.specs.Journal.{AirportRows}
use Rattle.cdm_day.specs.Airport.{with_runway, with_space, with_taxi}
use Rattle.cdm_files.specs.Fields.{and_then, counted, field, from_to, group_field, number_field, of_one, of_three, place_field, refused_by_word, runway_field}
use Rattle.cdm_files.specs.Files.{after_records}
use Rattle.cdm_files.specs.Records.{records_of}
use Rattle.cdm_files.specs.declared.airport_file.AirportRecord.{AirportRecord}
use Rattle.cdm_files.specs.declared.airport_file.AirportRecord.TheVariants.{Day, Runway, Space, Taxi}

-- what a record spells, by its first field: a day, a runway, a taxi time or an occupancy, or the first word that refuses it
unfoldable pub airport_record_of : List (List ℕ) → Result AirportRecord RefusalWord
airport_record_of fields =
    if bytes_eq (field fields 0) (codes "DAY") then counted 2 (length fields) (of_one Day (refused_by_word (day_of (field fields 1))))
    else if bytes_eq (field fields 0) (codes "RUNWAY") then
    counted 4 (length fields) (of_three Runway (runway_field (field fields 1)) (number_field is_cell_length (field fields 2)) (number_field (from_to 0 60) (field fields 3)))
    else if bytes_eq (field fields 0) (codes "TAXI") then
    counted 4 (length fields) (of_three Taxi (place_field (field fields 1)) (runway_field (field fields 2)) (number_field (from_to 1 120) (field fields 3)))
    else if bytes_eq (field fields 0) (codes "SPACE") then
    counted 4 (length fields) (of_three Space (runway_field (field fields 1)) (group_field (field fields 2)) (number_field (from_to 0 5) (field fields 3)))
    else Err word.Kind

-- the airport after one more record, where there is none before the first; or the word that refuses
-- the record: UNKNOWN, EXISTS, ORDER or FULL, the first that holds. ORDER refuses a runway before the day, and a second day.
unfoldable pub with_record : Option AirportRows → AirportRecord → Result (Option AirportRows) RefusalWord
with_record None (Day day) = Ok (Some (record { day = day; runways = []; taxi = map.empty }))
with_record None (Taxi place r minutes) = Err word.Unknown
with_record None (Space r group minutes) = Err word.Unknown
with_record (Some g) (Runway r cell cap) = of_one Some (with_runway g r cell cap)
with_record (Some g) (Taxi place r minutes) = of_one Some (with_taxi g place r minutes)
with_record (Some g) (Space r group minutes) = of_one Some (with_space g r group minutes)
with_record airport said = Err word.Order

-- the airport that a file says, or the number and the word of its first faulty record; one without records has no DAY
unfoldable pub airport_in : List ℕ → Result AirportRows (ℕ × RefusalWord)
airport_in text = and_then (after_records airport_record_of with_record None 1 (records_of text)) (λ rows. ok_or rows (1, word.Order))
