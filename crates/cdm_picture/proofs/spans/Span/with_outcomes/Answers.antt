use Rattle.std.proofs.{Common.arith, Common.refl, lemmas.Option.slice_get_read}
use Rattle.cdm_picture.{specs.inner.Spans.HasOutcome, proofs.SpanLemmas.all_of, proofs.SpanLemmas.one_more, proofs.SpanLemmas.outcome_kept}
use Rattle.cdm_picture.proofs.spans.Span.with_outcomes.Goals as goal

pub loop-outcome-preserved : goal.loop-outcome-preserved
loop-outcome-preserved c = record {
  keeps = λ m h. c.with_outcome-span.ensures.keeps m (c.loop-outcome.invariant.keeps m h);
  outcomes = one_more (HasOutcome c.loop-outcome.span) (HasOutcome c.with_outcome-span.result) _ _ _
      (outcome_kept c.loop-outcome.span c.with_outcome-span.result c.with_outcome-span.ensures.keeps)
      (slice_get_read _ _ _ _ refl c.loop-outcome-test.true c.outcome-item.is) c.loop-outcome.invariant.outcomes c.with_outcome-span.ensures.outcome;
}

pub returns-clause-outcomes : goal.returns-clause-outcomes
returns-clause-outcomes c =
    all_of (HasOutcome c.loop-outcome.span) c.args.outcomes.now c.loop-outcome.outcome-index (omega (arith, c.loop-outcome-test.false))
    c.loop-outcome.invariant.outcomes
