use Rattle.std.proofs.Common.{subst, sym}
use Rattle.cdm_runway.specs.{Passed.{ArePassed, IsPassed}, declared.passed.Passed.Passed, declared.passed.PassedOver.PassedOver}
use Rattle.cdm_runway.proofs.PassedLemmas.{passed_noted}
use Rattle.cdm_runway.proofs.load.RunwayLoad.earliest_past.Goals as goal

pub earliest_of_group-outcome-requires-clause-passed :
    goal.earliest_of_group-outcome-requires-clause-passed
earliest_of_group-outcome-requires-clause-passed c =
    subst (λ (p : Passed). IsPassed c.args.runway.now c.args.self.now.taken c.args.group p) (sym c.of-of_group.ensures) (c.requires.passed c.args.group)

pub returns-clause-passed : goal.returns-clause-passed
returns-clause-passed c =
    subst (λ (p : PassedOver). ArePassed c.args.runway.now c.args.self.now.taken p) (sym c.set.ensures)
    (passed_noted c.args.runway.now c.args.self.now.taken c.args.passed.now c.args.group c.earliest_of_group-outcome.new.passed c.requires.passed
    c.earliest_of_group-outcome.ensures.passed)
