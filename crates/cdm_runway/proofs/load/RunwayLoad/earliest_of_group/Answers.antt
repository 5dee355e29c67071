use Rattle.std.proofs.Common.{arith}
use Rattle.cdm_runway.proofs.PassedLemmas.{unfree_joined}
use Rattle.cdm_runway.proofs.load.RunwayLoad.earliest_of_group.Goals as goal

pub returns-in_default-clause-passed : goal.returns-in_default-clause-passed
returns-in_default-clause-passed c = record {
  unfree = unfree_joined c.args.runway.now c.args.self.now.taken c.args.group c.args.passed.now.unfree c.joined-passed.result c.get-from.result
      c.get-end.result c.joined-passed.ensures c.requires.passed.unfree c.in_default.ensures;
  met = c.reason.ensures.met;
}

pub returns-clause-passed : goal.returns-clause-passed
returns-clause-passed c = record {
  unfree = unfree_joined c.args.runway.now c.args.self.now.taken c.args.group c.args.passed.now.unfree c.joined-passed-2.result c.get-from.result
      c.get.result c.joined-passed-2.ensures c.requires.passed.unfree
      (λ k begun before. c.in-Some.ensures.least k begun (omega (arith, before, c.get.ensures.value)));
  met = c.requires.passed.met;
}
