use Rattle.std.{proofs.Common.{◌≡◌, ◌++◌, take}, specs.{List.filter_map, Prelude.flat_map}}
use Rattle.cdm_carry.specs.Notices.{earlier, left}
use Rattle.cdm_carry.proofs.noticing.flight_notices.Given as goal

abbrev pub invariant-loop-flight : goal.invariant-loop-flight
invariant-loop-flight l = l.notices.items ≡ filter_map left l.flights ++ flat_map earlier (take l.flight-index l.flights)
