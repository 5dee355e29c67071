use Rattle.std.{proofs.Common.{◌≡◌, take}, specs.List.filter_map}
use Rattle.cdm_flight.specs.Journal.{flight_of}
use Rattle.cdm_plan.specs.Day.{flights_in}
use Rattle.cdm_carry.proofs.noticing.flights_of.Given as goal

abbrev pub invariant-loop-place : goal.invariant-loop-place
invariant-loop-place l = l.flights.items ≡ filter_map (flight_of l.day.airport l.day.journal) (take l.place (flights_in l.day.journal))
