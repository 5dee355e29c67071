use Rattle.std.{proofs.Common.{◌≡◌, List}, proofs.lemmas.Result.IfOk-weaker, specs.List.AllZip}
use Rattle.cdm_scenario.specs.{declared.outcome.Outcome.Outcome, Outcome.IsOutcome, Scenarios.ScenarioRecord}
use Rattle.cdm_scenario.specs.inner.OneOutcome.{one_each, one_outcome}
use Rattle.cdm_scenario.proofs.answers.answer_all.Goals as goal

pub run_phase-requires-clause-can : goal.run_phase-requires-clause-can
run_phase-requires-clause-can g c κs within = λ k x l. c.values-values.ensures.sound

pub returns-clause-only : goal.returns-clause-only
returns-clause-only g c =
    let sound = c.values-values.ensures.sound in
    let base = c.args.base.now in
    let asked = c.args.scenarios.now in
    let Is : ScenarioRecord → Outcome → Type 0 = λ s o. IsOutcome base s.updates o in
    IfOk-weaker c.run_phase.result (λ v. AllZip Is asked v.items) (λ v. (others : List Outcome) → AllZip Is asked others → others ≡ v.items)
    (λ v all others also. one_each Is (λ s. one_outcome base s.updates sound.airport.names sound.names) asked others v.items also all) c.run_phase.ensures
