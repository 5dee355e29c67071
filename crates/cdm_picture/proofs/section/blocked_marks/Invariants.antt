use Rattle.std.proofs.Common.{◌≡◌, take, map}
use Rattle.cdm_picture.specs.declared.marks.BlockedMark.{BlockedMark}
use Rattle.cdm_picture.proofs.section.blocked_marks.Given as goal

abbrev pub invariant-loop-number : goal.invariant-loop-number
invariant-loop-number l = map (λ (m : BlockedMark). m.flight) l.marks.items ≡ take l.number l.flights
