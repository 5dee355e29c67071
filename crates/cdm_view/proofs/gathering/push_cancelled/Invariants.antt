use Rattle.std.proofs.Common.{◌≡◌, ◌++◌, IsTrue, take}
use Rattle.cdm_plan.proofs.{ListWords.All, ListWords.filter_map, PlanWords.flight_of, PlanWords.flights_in, PlanWords.Flight}
use Rattle.cdm_flight.specs.Record.{is_sound}
use Rattle.cdm_view.specs.Standings.{cancelled}
use Rattle.cdm_view.proofs.gathering.push_cancelled.Given as goal

-- what is known of the flights so far
abbrev pub invariant-loop-place : goal.invariant-loop-place
invariant-loop-place g l =
    let d = g.R.Records.day l.records in
    let known = filter_map (flight_of d.airport d.journal) (take l.place (flights_in d.journal)) in
    (l.standings.items ≡ l.initial.standings.items ++ filter_map cancelled known) × All (λ (f : Flight). IsTrue (is_sound f.runway f.status)) known
