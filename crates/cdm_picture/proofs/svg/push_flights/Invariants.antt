use Rattle.std.{proofs.Common.◌≡◌, proofs.Common.◌++◌, proofs.Common.take, specs.Prelude.flat_map, specs.String.string_bytes}
use Rattle.cdm_picture.specs.Svg.{flight_text}
use Rattle.cdm_picture.proofs.svg.push_flights.Given as goal

abbrev pub invariant-loop-flight : goal.invariant-loop-flight
invariant-loop-flight l = string_bytes l.text ≡ string_bytes l.initial.text ++ flat_map (flight_text l.day) (take l.flight-index l.flights)
