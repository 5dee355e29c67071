use Rattle.std.proofs.{Common.{◌≤◌, ◌∙◌, length, sym, ap}, lemmas.Result.err_from_is_err_and}
use Rattle.cdm_live.specs.{Live.batch_count, LiveFaults.calls_needed, inner.LiveSteps.IsBoardFault}
use Rattle.cdm_live.proofs.LiveLemmas.{counted_text, subst-both}
use Rattle.cdm_live.proofs.live_run.report_of.Goals as goal

pub returns-clause-counted : goal.returns-clause-counted
returns-clause-counted g c =
    let posts1 = c.batches_of-posts1.ensures ∙ ap batch_count (c.len.ensures ∙ sym c.deref.ensures.len) in
    let posts2 = c.batches_of-posts2.ensures ∙ ap batch_count (c.len-2.ensures ∙ sym c.deref-2.ensures.len) in
    counted_text _ _ _ _ _ _ _ _ _ _ _ _ _
    (c.deref.ensures.value ∙ c.in_ok-updates1.ensures) (c.deref-2.ensures.value ∙ c.in_ok-updates2.ensures)
    c.in_ok-merged.ensures.merged posts1 posts2 c.in_ok-report.ensures.text c.in_ok-report.ensures.counts

pub returns-clause-fits : goal.returns-clause-fits
returns-clause-fits g c =
    subst-both (λ us vs. calls_needed (length us) (length vs) ≤ 4096) _ _ _ _
    (c.deref.ensures.value ∙ c.in_ok-updates1.ensures) (c.deref-2.ensures.value ∙ c.in_ok-updates2.ensures) c.in_ok-merged.ensures.fits

pub returns-in_err-merged-clause-fault : goal.returns-in_err-merged-clause-fault
returns-in_err-merged-clause-fault g c =
    let e = c.in_err-merged.field-0.0 in
    let p = err_from_is_err_and c.from_residual-in_err-merged.result c.from_residual-in_err-merged.ensures.1 in
    rw (p.1, p.2)
    (subst-both (λ us vs. IsBoardFault (length us) (length vs) e) _ _ _ _
    (c.deref.ensures.value ∙ c.in_ok-updates1.ensures) (c.deref-2.ensures.value ∙ c.in_ok-updates2.ensures) c.in_err-merged.ensures.fault)
