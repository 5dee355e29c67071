use Rattle.std.proofs.Common.{IsTrue}
use Rattle.cdm_plan.proofs.PlanWords.{Flight, flight_of, flights_in}
use Rattle.cdm_flight.specs.Record.{is_sound}
use Rattle.cdm_view.proofs.KnownLemmas.{all_next, cancelled_next}
use Rattle.cdm_view.proofs.gathering.push_cancelled.Goals as goal

pub loop-place-preserved : goal.loop-place-preserved
loop-place-preserved g c =
    let d = g.R.Records.day c.args.records.now in
    let known = flight_of d.airport d.journal in
    let names = flights_in d.journal in
    let value = c.flight_at.ensures.value in
    let so_far = c.loop-place.invariant in
    let more = c.in_ok-push_if_cancelled.ensures.pushed in
    let here = c.push_if_cancelled.ensures.sound in
    let is_sound_flight = λ (f : Flight). IsTrue (is_sound f.runway f.status) in (
      cancelled_next known names c.loop-place.place _ value _ _ _ so_far.0 more,
      all_next known names c.loop-place.place _ value is_sound_flight so_far.1 here,
    )
