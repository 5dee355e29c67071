use Rattle.std.proofs.Common.{◌≡◌, ◌++◌, map, take}
use Rattle.cdm_view.specs.declared.standing.Standing.TheVariants.{OnRunway}
use Rattle.cdm_view.proofs.gathering.push_slots.Given as goal

abbrev pub invariant-loop-slot : goal.invariant-loop-slot
invariant-loop-slot l = l.standings.items ≡ l.initial.standings.items ++ map (OnRunway l.runway) (take l.slot-index l.slots)
