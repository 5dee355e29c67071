use Rattle.std.proofs.{Common.{◌≡◌, ◌∙◌, ap, sym}, lemmas.Slice.Eq.slice_eq-Decides}
use Rattle.cdm_sequence.{specs.declared.plan.RunwayPlan.RunwayPlan, proofs.EqualLemmas.slots_decide}
use Rattle.cdm_report.proofs.made.has_same_slots.Goals as goal

pub returns-then-eq-clause-slots : goal.returns-then-eq-clause-slots
returns-then-eq-clause-slots c = λ same.
    let slots : c.as_slice.result.now ≡ c.args.one.now.slots = c.as_slice.ensures ∙ ap (λ (p : RunwayPlan). p.slots) c.one.view_is in
    let others : c.as_slice-then-eq.result.now ≡ c.args.other.now.slots = c.as_slice-then-eq.ensures ∙ ap (λ (p : RunwayPlan). p.slots) c.other.view_is in
    sym slots ∙ ((slice_eq-Decides slots_decide _ _ _ c.eq-then-eq.ensures).0 same ∙ others)
