use Rattle.std.proofs.Common.{ℕ, List, Result, subst, sym}
use Rattle.cdm_flight.specs.declared.{update.Update.Update, word.RefusalWord.RefusalWord}
use Rattle.cdm_plan.specs.Day.{DayRecord}
use Rattle.cdm_scenario.specs.Outcome.{IsLaid}
use Rattle.cdm_feed.{specs.inner.Over.IsUntoldOver, proofs.AskedLemmas.over_fault}
use Rattle.cdm_feed.proofs.making.answer_over.Goals as goal

pub returns-in-Ok-day_answer-clause-made : goal.returns-in-Ok-day_answer-clause-made
returns-in-Ok-day_answer-clause-made c =
    let base = c.args.base.now in
    let laid = subst (λ (us : List Update). IsLaid base us c.in_ok-day.field-0) c.updates.ensures.value c.in_ok-day.ensures in
    record {
      day = c.in-Ok.day;
      is_day = subst (λ (r : Result DayRecord (ℕ × RefusalWord)). IsLaid base c.args.scenario.now.updates r) c.in-Ok.is laid;
      plan = c.in_ok-plan-in-Ok.plan;
      of_day = c.in_ok-plan-in-Ok.ensures.of_day;
      answer = c.in-Ok-day_answer.ensures.answer;
    }

pub returns-in-Ok-clause-fault : goal.returns-in-Ok-clause-fault
returns-in-Ok-clause-fault c =
    let base = c.args.base.now in
    let s = c.args.scenario.now in
    let laid = subst (λ (us : List Update). IsLaid base us c.in_ok-day.field-0) c.updates.ensures.value c.in_ok-day.ensures in
    let of_day = subst (λ (r : Result DayRecord (ℕ × RefusalWord)). IsLaid base s.updates r) c.in-Ok.is laid in
    subst (IsUntoldOver c.args.asking.question base c.args.name s) (sym c.view_error.ensures)
    (over_fault c.args.asking.question base c.args.name s c.in-Ok.day of_day c.in-Err-day_answer.fault c.in-Err-day_answer.ensures.fault)
