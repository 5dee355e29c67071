use Rattle.cdm_plan.proofs.KeptLemmas.{none_kept}
use Rattle.cdm_day.proofs.day.DayState.begun.Goals as goal

pub plan_keeping-requires : goal.plan_keeping-requires
plan_keeping-requires c = none_kept c.in_ok-tables.tables
