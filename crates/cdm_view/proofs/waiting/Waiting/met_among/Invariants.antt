use Rattle.std.proofs.Common.{◌≡◌, take}
use Rattle.cdm_view.specs.{inner.Earlier.met_among, Reasons.names_of}
use Rattle.cdm_view.proofs.waiting.Waiting.met_among.Given as goal

abbrev pub invariant-loop-slot : goal.invariant-loop-slot
invariant-loop-slot l = l.names ≡ names_of (met_among l.self l.minute (take l.slot-index l.slots))
