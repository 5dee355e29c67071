use Rattle.std.proofs.Common.{◌∙◌, ap, subst, sym}
use Rattle.cdm_flight.specs.Accepted.{accepted}
use Rattle.cdm_plan.specs.Day.{DayRecord}
use Rattle.cdm_carry.specs.{inner.Leaving.LeaveOnce}
use Rattle.cdm_carry.proofs.{StayLemmas.leave_once}
use Rattle.cdm_carry.proofs.carrying.carried_of.Goals as goal

pub carried_all-requires : goal.carried_all-requires
carried_all-requires c =
    let records = c.args.records.now in
    subst (λ (d : DayRecord). LeaveOnce d.journal)
    (sym (c.in_ok-taken.ensures.day ∙ ap (λ (d : DayRecord). record d { journal = accepted d.airport d.journal records }) (c.over-day.ensures ∙ c.in_ok-first.ensures)))
    (leave_once c.args.airport records)
