use Rattle.std.proofs.{Common.arith, Common.refl, Common.rules, lemmas.Option.slice_get_read}
use Rattle.cdm_picture.{specs.inner.Spans.HasSlots, proofs.SpanLemmas.all_of, proofs.SpanLemmas.one_more, proofs.SpanLemmas.slots_kept}
use Rattle.cdm_picture.proofs.spans.Span.with_runways.Goals as goal

pub loop-runway-preserved : goal.loop-runway-preserved
loop-runway-preserved c = record {
  keeps = λ m h. c.with_slots-span.ensures.keeps m (c.loop-runway.invariant.keeps m h);
  runways = one_more (λ p. HasSlots c.loop-runway.span p.slots) (λ p. HasSlots c.with_slots-span.result p.slots) _ _ _
      (slots_kept c.loop-runway.span c.with_slots-span.result c.with_slots-span.ensures.keeps)
      (slice_get_read _ _ _ _ refl c.loop-runway-test.true c.runway-item.is) c.loop-runway.invariant.runways (search rules);
}

pub returns-clause-runways : goal.returns-clause-runways
returns-clause-runways c =
    all_of (λ p. HasSlots c.loop-runway.span p.slots) c.args.runways.now c.loop-runway.runway-index (omega (arith, c.loop-runway-test.false))
    c.loop-runway.invariant.runways
