use Rattle.std.{proofs.Common.{◌≡◌, ◌-◌, ◌≤◌, take, map}, specs.Prelude.{vec_capacity, vec_len}}
use Rattle.cdm_plan.proofs.{ListWords.{All, filter_map}, PlanWords.{asked_of, flight_of, flights_in, gone_of, planned_of, taxi_of}}
use Rattle.cdm_plan.specs.inner.Work.{HasExot}
use Rattle.cdm_plan.proofs.work.touched_flights.Given as goal

-- those so far, with room for the others
abbrev pub invariant-loop-place : goal.invariant-loop-place
invariant-loop-place g l =
    let d = g.R.Records.day l.records in
    let here = asked_of l.touched (filter_map (flight_of d.airport d.journal) (take l.place (flights_in d.journal))) in
    record {
      gone : map (λ f. f.now) l.gone.items ≡ gone_of here;
      asked : map (λ a. a.flight.now) l.asked.items ≡ planned_of here;
      exots : All (HasExot (taxi_of d.airport d.journal)) l.asked.items;
      few : (vec_len l.gone ≤ l.place) × (vec_len l.asked ≤ l.place);
      room : (l.known ≤ vec_capacity l.gone) × (l.known ≤ vec_capacity l.asked);
    }

-- the places that are left
abbrev pub decreases-loop-place : goal.decreases-loop-place
decreases-loop-place g l = l.known - l.place
