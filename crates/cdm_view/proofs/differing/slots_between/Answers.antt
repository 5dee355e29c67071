use Rattle.std.proofs.{Common.{◌≡◌, ◌∙◌, List, ℕ, ap, map, subst, sym, arith}, lemmas.{Bool.not-false, Grind.common_steps}}
use Rattle.cdm_plan.proofs.PlanWords.{RunwayPlan, same_is, same_name}
use Rattle.cdm_view.specs.{Standings.on_runway, declared.standing.Standing.TheVariants.OnRunway, inner.Left.AreRests}
use Rattle.cdm_view.proofs.ChangeLemmas.{rests_all, rests_map}
use Rattle.cdm_view.proofs.differing.slots_between.Goals as goal

pub returns-then-ne : goal.returns-then-ne
returns-then-ne c = grind (arith, common_steps, rests_all)

pub returns : goal.returns
returns c =
    let before = c.args.before.now in
    let after = c.args.after.now in
    let slots : c.as_slice-slots.result.now ≡ before.slots = c.as_slice-slots.ensures ∙ ap (λ (p : RunwayPlan). p.slots) c.before-2.view_is in
    let others : c.as_slice-others.result.now ≡ after.slots = c.as_slice-others.ensures ∙ ap (λ (p : RunwayPlan). p.slots) c.after.view_is in
    let same = same_is c.before-2.inside.runway c.after.inside.runway
    (not-false (same_name c.before-2.inside.runway c.after.inside.runway) (sym c.ne.ensures ∙ c.if-ne.false)) in
    let runway : before.runway ≡ after.runway =
    sym (ap (λ (p : RunwayPlan). p.runway) c.before-2.view_is) ∙ (same ∙ ap (λ (p : RunwayPlan). p.runway) c.after.view_is) in
    let rests = rw (slots, others) at c.in_ok-rests.ensures in
    subst (λ (r : List ℕ). AreRests (on_runway before) (map (OnRunway r) after.slots) (map (OnRunway before.runway) c.in_ok-rests.rests.0.items)
    (map (OnRunway r) c.in_ok-rests.rests.1.items)) runway (rests_map (OnRunway before.runway) before.slots after.slots _ _ rests)
