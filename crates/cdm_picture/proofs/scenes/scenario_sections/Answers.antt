use Rattle.std.proofs.{Common.length, Common.arith, Common.refl, lemmas.Option.slice_get_read}
use Rattle.cdm_phase.proofs.Values.{AllZip-step}
use Rattle.cdm_scenario.specs.{Outcome.IsOutcome, Scenarios.ScenarioRecord, declared.outcome.Outcome.Outcome}
use Rattle.cdm_picture.{specs.Pictures.IsScenarioDrawn, proofs.SceneLemmas.zip_at}
use Rattle.cdm_picture.proofs.scenes.scenario_sections.Goals as goal

pub scenario_section-requires-clause-of : goal.scenario_section-requires-clause-of
scenario_section-requires-clause-of c =
    let k = c.loop-place.place in
    let scenarios = c.args.scenarios.now in
    let outcomes = c.args.outcomes.now in
    zip_at (λ (s : ScenarioRecord) (o : Outcome). IsOutcome c.args.base.now s.updates o) scenarios outcomes k _ _ c.requires.of
    (slice_get_read scenarios (length scenarios) k _ refl c.loop-place-test.true c.index-scenarios-place.is)
    (slice_get_read outcomes (length outcomes) k _ refl (omega arith) c.index-outcomes-place.is)

pub loop-place-preserved : goal.loop-place-preserved
loop-place-preserved c =
    rw c.in_ok-push.ensures.items
    (AllZip-step (IsScenarioDrawn c.args.base.now c.args.page.now.hours) c.args.scenarios.now c.loop-place.sections.items c.loop-place.place _ _
    (omega arith) c.index-scenarios-place.is c.loop-place.invariant c.in_ok-section.ensures)
