use Rattle.std.proofs.Common.{take}
use Rattle.cdm_picture.specs.inner.Spans.{HasSlots, Keeps}
use Rattle.cdm_picture.proofs.spans.Span.with_slots.Given as goal

abbrev pub invariant-loop-slot : goal.invariant-loop-slot
invariant-loop-slot l = record {
  keeps : Keeps l.initial.span l.span;
  slots : HasSlots l.span (take l.slot-index l.slots);
}
