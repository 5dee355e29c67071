use Rattle.std.{proofs.Common.take, specs.Prelude.All}
use Rattle.cdm_picture.specs.inner.Spans.{HasSlots, Keeps}
use Rattle.cdm_picture.proofs.spans.Span.with_runways.Given as goal

abbrev pub invariant-loop-runway : goal.invariant-loop-runway
invariant-loop-runway l = record {
  keeps : Keeps l.initial.span l.span;
  runways : All (λ p. HasSlots l.span p.slots) (take l.runway-index l.runways);
}
