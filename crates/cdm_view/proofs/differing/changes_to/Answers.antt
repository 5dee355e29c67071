use Rattle.cdm_view.proofs.ChangeLemmas.{changed_to, left_apart}
use Rattle.std.proofs.{Common.arith, lemmas.Grind.common_steps}
use Rattle.cdm_view.proofs.differing.changes_to.Goals as goal

pub changes_of-requires-clause-before : goal.changes_of-requires-clause-before
changes_of-requires-clause-before g c =
    let are = c.in_ok-push_cancelled_of.ensures.pushed _ _ c.in_ok-differing.ensures in
    left_apart c.args.before.now c.plan.result.now are.same _ c.plan.ensures.sound c.plan.ensures.of_day are.of_one

pub changes_of-requires-clause-after : goal.changes_of-requires-clause-after
changes_of-requires-clause-after g c =
    let are = c.in_ok-push_cancelled_of.ensures.pushed _ _ c.in_ok-differing.ensures in
    left_apart (g.R.Records.day c.args.after.now) c.args.plan.now are.same _ c.in_ok-push_cancelled_of.ensures.sound c.requires are.of_other

pub returns : goal.returns
returns g c = grind (arith, common_steps, changed_to)
