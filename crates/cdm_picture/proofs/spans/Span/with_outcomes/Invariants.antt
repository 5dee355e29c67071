use Rattle.std.{proofs.Common.take, specs.Prelude.All}
use Rattle.cdm_picture.specs.inner.Spans.{HasOutcome, Keeps}
use Rattle.cdm_picture.proofs.spans.Span.with_outcomes.Given as goal

abbrev pub invariant-loop-outcome : goal.invariant-loop-outcome
invariant-loop-outcome l = record {
  keeps : Keeps l.initial.span l.span;
  outcomes : All (HasOutcome l.span) (take l.outcome-index l.outcomes);
}
