use Rattle.std.proofs.Common.{◌≡◌, map, take}
use Rattle.cdm_view.{specs.Turns.turn_in}
use Rattle.cdm_view.proofs.turns.turns_in.Given as goal

abbrev pub invariant-loop-slot : goal.invariant-loop-slot
invariant-loop-slot g l = l.turns.items ≡ map (turn_in (g.R.Records.day l.records)) (take l.slot-index l.slots)
