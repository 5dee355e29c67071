use Rattle.std.proofs.Common.{ap, ◌∙◌}
use Rattle.cdm_sequence.specs.declared.plan.Plan.{Plan}
use Rattle.cdm_report.{specs.inner.Counting.only_blocked, proofs.CountLemmas.counted-is-counts_of}
use Rattle.cdm_report.proofs.counts.indicators.Goals as goal

pub returns : goal.returns
returns c =
    let runways = ap (λ (p : Plan). p.runways) c.plan.view_is in
    let blocked = ap (λ (p : Plan). p.blocked) c.plan.view_is in
    counted-is-counts_of c.args.plan.now _ c.blocked_counts-counts.result _ _
    (c.blocked_counts-counts.ensures ∙ ap only_blocked (c.as_slice.ensures ∙ blocked))
    (c.as_slice-runway-items.ensures ∙ runways)
    c.loop-runway-test.false
    c.loop-runway.invariant.counted
