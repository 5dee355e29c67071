use Rattle.std.proofs.Common.{◌≡◌, take}
use Rattle.cdm_view.specs.inner.Earlier.{taken_slots}
use Rattle.cdm_view.proofs.waiting.taken_slots.Given as goal

abbrev pub invariant-loop-turn : goal.invariant-loop-turn
invariant-loop-turn l = l.taken.items ≡ taken_slots l.key (take l.turn-index l.turns)
