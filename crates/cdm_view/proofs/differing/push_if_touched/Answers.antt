use Rattle.std.proofs.Common.{◌∙◌, ◌++◌, ap, subst, sym}
use Rattle.cdm_plan.proofs.PlanWords.{RunwayPlan, is_touched, same_is}
use Rattle.cdm_view.{specs.Standings.on_runway, specs.inner.Left.AreLeft, proofs.ChangeLemmas.rests_same}
use Rattle.cdm_view.proofs.differing.push_if_touched.Goals as goal

pub returns-then-not-has : goal.returns-then-not-has
returns-then-not-has c = λ first second are.
    let name = λ (p : RunwayPlan). p.runway in
    let same = sym (ap name c.before-2.view_is)
    ∙ (same_is c.before-2.inside.runway c.after.inside.runway (sym c.eq.ensures ∙ c.if-eq.true) ∙ ap name c.after.view_is) in
    let stands = ap (is_touched c.args.touched.now) (sym (ap name c.before-2.view_is)) ∙ (sym c.has.ensures ∙ c.if-not-has.true) in
    subst (λ p. AreLeft (first ++ on_runway c.args.before.now) (second ++ on_runway p) c.args.differing.now) (c.requires same stands)
    (rests_same first second _ _ (on_runway c.args.before.now) are)
