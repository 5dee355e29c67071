use Rattle.std.proofs.Common.{◌++◌, ◌∙◌, [], sym}
use Rattle.std.specs.List.{cons_option}
use Rattle.cdm_flight.specs.Journal.{flight_of}
use Rattle.cdm_plan.{proofs.DayPlanLemmas.records-next, specs.Day.flights_in}
use Rattle.cdm_carry.proofs.noticing.flights_of.Goals as goal

pub loop-place-preserved : goal.loop-place-preserved
loop-place-preserved c =
    let d = c.args.day.now in
    c.in_ok-push_known.ensures ∙ (λ i. c.loop-place.invariant i ++ cons_option (c.flight_at.ensures.value i) [])
    ∙ sym (records-next (flight_of d.airport d.journal) (flights_in d.journal) c.loop-place.place)
