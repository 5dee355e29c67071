use Rattle.cdm_picture.specs.inner.Spans.{Keeps}
use Rattle.cdm_picture.proofs.spans.Span.with_closed.Given as goal

abbrev pub invariant-loop-number : goal.invariant-loop-number
invariant-loop-number l = Keeps l.initial.span l.span
