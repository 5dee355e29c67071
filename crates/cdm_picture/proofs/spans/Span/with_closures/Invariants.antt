use Rattle.cdm_picture.specs.inner.Spans.{Keeps}
use Rattle.cdm_picture.proofs.spans.Span.with_closures.Given as goal

abbrev pub invariant-loop-place : goal.invariant-loop-place
invariant-loop-place g l = Keeps l.initial.span l.span
