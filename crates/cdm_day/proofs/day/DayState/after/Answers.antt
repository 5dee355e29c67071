use Rattle.std.proofs.Common.{rules}
use Rattle.cdm_day.proofs.BatchLemmas.{day-kept}
use Rattle.cdm_day.proofs.day.DayState.after.Goals as goal

pub plan_keeping-requires : goal.plan_keeping-requires
plan_keeping-requires c = rw (c.kept.ensures.plans, c.kept.ensures.blocked, c.kept.ensures.touched) c.in_ok-judged.ensures.kept

-- where nothing was taken, the plan is that of the day as it is
pub invariant_of-result : goal.invariant_of-result
invariant_of-result c = search (rules, day-kept)
