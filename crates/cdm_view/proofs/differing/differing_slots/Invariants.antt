use Rattle.std.{proofs.Common.take, specs.List.flat_map}
use Rattle.cdm_view.specs.{Standings.on_runway, inner.Left.AreLeft}
use Rattle.cdm_view.proofs.differing.differing_slots.Given as goal

abbrev pub invariant-loop-place : goal.invariant-loop-place
invariant-loop-place l = AreLeft (flat_map on_runway (take l.place l.before)) (flat_map on_runway (take l.place l.after)) l.differing
