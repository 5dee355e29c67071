use Rattle.std.proofs.Common.{◌≡◌, ◌++◌, map, take}
use Rattle.cdm_view.specs.declared.standing.Standing.TheVariants.{Blocked}
use Rattle.cdm_view.proofs.gathering.push_blocked.Given as goal

abbrev pub invariant-loop-flight : goal.invariant-loop-flight
invariant-loop-flight l = l.standings.items ≡ l.initial.standings.items ++ map Blocked (take l.flight-index l.flights)
