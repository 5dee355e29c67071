use Rattle.std.proofs.Common.{rules}
use Rattle.cdm_scenario.specs.inner.OneOutcome.{one_outcome}
use Rattle.cdm_scenario.proofs.answers.answer.Goals as goal

pub returns-in-Err-clause-only : goal.returns-in-Err-clause-only
returns-in-Err-clause-only c = λ other is.
    let sound = c.values-of_base.ensures.sound in
    one_outcome c.args.base.now c.args.scenario.now.updates sound.airport.names sound.names other _ is (search rules)

pub returns-in_ok-plan-in-Ok-clause-only : goal.returns-in_ok-plan-in-Ok-clause-only
returns-in_ok-plan-in-Ok-clause-only c = λ other is.
    let sound = c.values-of_base.ensures.sound in
    one_outcome c.args.base.now c.args.scenario.now.updates sound.airport.names sound.names other _ is (search rules)
