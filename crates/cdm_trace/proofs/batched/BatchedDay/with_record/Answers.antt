use Rattle.std.proofs.Common.{◌≤◌, ◌∙◌, subst, sym}
use Rattle.cdm_flight.specs.Journal.{values_of}
use Rattle.cdm_plan.specs.Day.{DayRecord}
use Rattle.cdm_trace.proofs.BatchLemmas.{joined}
use Rattle.cdm_trace.proofs.batched.BatchedDay.with_record.Goals as goal

pub returns : goal.returns
returns c =
    let s = c.day.inside in
    joined s.desk c.args.self s.batch.items c.push_last.new.items.items c.in-Ok.update c.args.spelled.now
    (c.day.view_is ∙ c.in_ok-day.ensures) c.in_ok-push_last.ensures c.in-Ok.is

pub invariant_of-result : goal.invariant_of-result
invariant_of-result c =
    subst (λ (d : DayRecord). (values_of d.journal).clock ≤ c.latest_after-latest.result) (sym (returns c)) c.latest_after-latest.ensures
