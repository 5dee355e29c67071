use Rattle.cdm_plan.{proofs.KeptLemmas.same_elsewhere, specs.Kept.IsMade}
use Rattle.cdm_view.proofs.ChangeLemmas.{changed_to, left_apart}
use Rattle.std.proofs.{Common.arith, lemmas.Grind.common_steps}
use Rattle.cdm_view.proofs.differing.changes_by.Goals as goal

pub differing_plans-requires : goal.differing_plans-requires
differing_plans-requires c =
    let made : IsMade c.args.before.now c.plan.result.now = record { sound = c.plan.ensures.sound; of_day = c.plan.ensures.of_day; only = c.plan.ensures.only } in
    let next_made : IsMade c.args.after.now c.plan-2.result.now = record { sound = c.plan-2.ensures.sound; of_day = c.plan-2.ensures.of_day; only = c.plan-2.ensures.only } in
    same_elsewhere c.args.before.now c.args.after.now c.in_ok-touched.touched c.plan.result.now c.plan-2.result.now made next_made c.in_ok-touched.ensures

pub changes_of-requires-clause-before : goal.changes_of-requires-clause-before
changes_of-requires-clause-before c =
    let are = c.in_ok-push_cancelled_by.ensures _ _ c.in_ok-differing.ensures in
    left_apart c.args.before.now c.plan.result.now are.same _ c.plan.ensures.sound c.plan.ensures.of_day are.of_one

pub changes_of-requires-clause-after : goal.changes_of-requires-clause-after
changes_of-requires-clause-after c =
    let are = c.in_ok-push_cancelled_by.ensures _ _ c.in_ok-differing.ensures in
    left_apart c.args.after.now c.plan-2.result.now are.same _ c.plan-2.ensures.sound c.plan-2.ensures.of_day are.of_other

pub returns : goal.returns
returns c = grind (arith, common_steps, changed_to)
