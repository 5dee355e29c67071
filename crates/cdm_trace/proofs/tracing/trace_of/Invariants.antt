use Rattle.std.proofs.Common.{length}
use Rattle.cdm_trace.proofs.TraceLemmas.{Tells}
use Rattle.cdm_trace.proofs.tracing.trace_of.Given as goal

abbrev pub invariant-records : goal.invariant-records
invariant-records l = Tells l.fn.from l.fn.format l.fn.flight l.fn.airport l.fn.feed l.day l.number l.reader l.text.items

abbrev pub decreases-records : goal.decreases-records
decreases-records l = length l.reader
