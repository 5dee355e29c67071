use Rattle.std.proofs.Common.{◌≡◌, take}
use Rattle.cdm_sequence.specs.Fixed.{takeoffs}
use Rattle.cdm_sequence.proofs.turns.take_fixed.Given as goal

abbrev pub invariant-loop-flight : goal.invariant-loop-flight
invariant-loop-flight l = l.load ≡ record { cell = l.runway.cell; taken = takeoffs l.runway (take l.flight-index l.fixed) }
