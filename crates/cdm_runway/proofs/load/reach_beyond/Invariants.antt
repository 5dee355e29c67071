use Rattle.cdm_runway.specs.inner.Tally.{EndsBy}
use Rattle.cdm_runway.proofs.load.reach_beyond.Given as goal

abbrev pub invariant-loop-start : goal.invariant-loop-start
invariant-loop-start l = EndsBy l.longest l.minute l.first l.start
