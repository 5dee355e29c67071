-- What a contract sees of a day, and what its journal says of flights and runways.
use Rattle.std.specs.Prelude.{ℕ, ◌*◌, ◌/◌, List, [], ◌∷◌, ◌++◌, map, None, if◌then◌else◌}
use Rattle.std.specs.List.{filter_map, range_with_len}
use Rattle.cdm_flight.specs.declared.airport.RunwayRow.{RunwayRow}
use Rattle.cdm_flight.specs.declared.update.Update.{Update}
use Rattle.cdm_flight.specs.Reach.{flight_of_update}
use Rattle.cdm_flight.specs.Step.{is_fresh}
use Rattle.cdm_flight.specs.Journal.{AirportRows, cap_of, closed_of}
use Rattle.cdm_runway.specs.Rules.{RunwayRules}

-- the airport's rows and the accepted updates, the oldest first
pub record DayRecord : Type 0 where
  pub airport : AirportRows
  pub journal : List Update

-- with one more update
abbrev pub with_update : DayRecord → Update → DayRecord
with_update day u = record day { journal = day.journal ++ u ∷ [] }

-- the flights in the order in which an FLT made them known
abbrev pub flights_in : List Update → List (List ℕ)
flights_in a = filter_map (λ u. if is_fresh u then flight_of_update u else None) a

-- what the airport and the journal allow on a runway
unfoldable pub rules_of : AirportRows → List Update → RunwayRow → RunwayRules
rules_of g a row = record {
  name = row.name;
  cell = row.cell;
  caps = map (λ k. cap_of g a row.name (k * row.cell)) (range_with_len 0 (2880 / row.cell));
  closed = map (λ m. closed_of a row.name m) (range_with_len 0 2880);
  spacing = row.spacing;
}
