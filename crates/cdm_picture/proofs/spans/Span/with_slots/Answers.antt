use Rattle.std.proofs.{Common.◌≡◌, Common.ap, Common.arith, Common.refl, Common.subst, lemmas.Option.slice_get_read}
use Rattle.cdm_sequence.specs.declared.slot.Slot.{Slot}
use Rattle.cdm_picture.{specs.inner.Spans.Has, proofs.SpanLemmas.all_of, proofs.SpanLemmas.one_more, proofs.SpanLemmas.slot_kept}
use Rattle.cdm_picture.proofs.spans.Span.with_slots.Goals as goal

pub loop-slot-preserved : goal.loop-slot-preserved
loop-slot-preserved c =
    let same : c.slot.inside.ttot ≡ c.slot-item.result.ttot = cc (ap (λ (s : Slot). s.ttot) c.slot.view_is) in
    record {
      keeps = λ m h. c.with-span.ensures.keeps m (c.loop-slot.invariant.keeps m h);
      slots = one_more (λ s. Has c.loop-slot.span s.ttot) (λ s. Has c.with-span.result s.ttot) _ _ _
          (slot_kept c.loop-slot.span c.with-span.result c.with-span.ensures.keeps)
          (slice_get_read _ _ _ _ refl c.loop-slot-test.true c.slot-item.is)
          c.loop-slot.invariant.slots (subst (Has c.with-span.result) same c.with-span.ensures.last);
    }

pub returns-clause-slots : goal.returns-clause-slots
returns-clause-slots c =
    all_of (λ s. Has c.loop-slot.span s.ttot) c.args.slots.now c.loop-slot.slot-index (omega (arith, c.loop-slot-test.false)) c.loop-slot.invariant.slots
