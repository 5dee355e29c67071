use Rattle.std.proofs.Common.{◌≤◌, arith, subst}
use Rattle.cdm_flight.specs.Journal.{values_of}
use Rattle.cdm_plan.specs.Day.{DayRecord}
use Rattle.cdm_trace.proofs.BatchLemmas.{ends_update, ends_word}
use Rattle.cdm_trace.proofs.batched.BatchedDay.latest_after.Goals as goal

pub returns-in-Ok : goal.returns-in-Ok
returns-in-Ok c =
    let old = subst (λ (d : DayRecord). (values_of d.journal).clock ≤ c.self.inside.latest) c.self.view_is c.self.invariant in
    let later = c.later.ensures.before in
    ends_update c.args.self.now c.args.spelled.now c.later.result _ c.in-Ok.is (omega (arith, old, later)) c.later.ensures.named

pub returns-in-Err : goal.returns-in-Err
returns-in-Err c =
    let old = subst (λ (d : DayRecord). (values_of d.journal).clock ≤ c.self.inside.latest) c.self.view_is c.self.invariant in
    ends_word c.args.self.now c.args.spelled.now c.self.inside.latest _ c.in-Err.is old
