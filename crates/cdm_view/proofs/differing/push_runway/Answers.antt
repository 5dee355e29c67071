use Rattle.std.proofs.Common.{◌∙◌, ◌++◌, List, ℕ, ap, map}
use Rattle.cdm_plan.proofs.PlanWords.{RunwayPlan}
use Rattle.cdm_view.{specs.Standings.on_runway, specs.declared.standing.Standing.TheVariants.OnRunway, proofs.ChangeLemmas.rests_more}
use Rattle.cdm_view.proofs.differing.push_runway.Goals as goal

pub returns : goal.returns
returns c = λ first second are.
    let one = c.deref.result.now in
    let two = c.deref-2.result.now in
    let old = c.args.differing.now in
    let rests = rw (← c.deref.ensures.value, ← c.deref-2.ensures.value) at c.in_ok-slots.ensures in
    let before = c.in_ok-push_slots.ensures
    ∙ ap (λ (r : List ℕ). old.before.items ++ map (OnRunway r) one) (ap (λ (p : RunwayPlan). p.runway) c.before-2.view_is) in
    let after = c.in_ok-push_slots-2.ensures
    ∙ ap (λ (r : List ℕ). old.after.items ++ map (OnRunway r) two) (ap (λ (p : RunwayPlan). p.runway) c.after.view_is) in
    rests_more first second (on_runway c.args.before.now) (on_runway c.args.after.now) (map (OnRunway c.args.before.now.runway) one)
    (map (OnRunway c.args.after.now.runway) two) _ _ _ _ rests before after are
