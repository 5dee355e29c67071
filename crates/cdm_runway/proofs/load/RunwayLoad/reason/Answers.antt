use Rattle.std.proofs.Common.{arith}
use Rattle.cdm_runway.proofs.PassedLemmas.{met_joined}
use Rattle.cdm_runway.proofs.load.RunwayLoad.reason.Goals as goal

pub returns-in-Some-first_open-clause-met : goal.returns-in-Some-first_open-clause-met
returns-in-Some-first_open-clause-met c =
    met_joined c.args.runway.now c.args.self.now.taken c.args.group c.args.met.now c.joined.result c.get-from.result c.get-end.result c.joined.ensures
    c.requires.met c.in_default.ensures

pub returns-in-None-clause-met : goal.returns-in-None-clause-met
returns-in-None-clause-met c =
    met_joined c.args.runway.now c.args.self.now.taken c.args.group c.args.met.now c.joined.result c.get-from.result c.get-end.result c.joined.ensures
    c.requires.met c.in_default.ensures

pub returns-clause-met : goal.returns-clause-met
returns-clause-met c =
    met_joined c.args.runway.now c.args.self.now.taken c.args.group c.args.met.now c.joined-2.result c.get-from.result c.get.result c.joined-2.ensures
    c.requires.met (λ k begun before. c.in-Some.ensures.least k begun (omega (arith, before, c.get.ensures.value)))
