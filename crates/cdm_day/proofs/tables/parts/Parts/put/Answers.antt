use Rattle.cdm_day.proofs.{Words.{refl, sym, rules, map-id}, BriefLemmas.none, TableLemmas.{flight_in, where_both, where_ok}}
use Rattle.cdm_plan.proofs.ListWords.{arc_value}
use Rattle.cdm_day.proofs.tables.parts.Parts.put.Goals as goal

pub returns-in-NewFlight-clause-ok : goal.returns-in-NewFlight-clause-ok
returns-in-NewFlight-clause-ok c = search (rules, where_both, flight_in)

pub returns-in-Runway-clause-ok : goal.returns-in-Runway-clause-ok
returns-in-Runway-clause-ok c =
    where_ok c.change_runways.result c.change_runways.ensures.ok
    (λ changed. rw c.in-Runway.is (record { flights = λ f. refl; entries = refl; runways = changed; taxi = refl; values = refl; briefs = λ kept. kept }))

pub returns-in-TaxiRow-clause-ok : goal.returns-in-TaxiRow-clause-ok
returns-in-TaxiRow-clause-ok c =
    where_ok c.change_taxi.result c.change_taxi.ensures.ok
    (λ set. rw c.in-TaxiRow.is (record { flights = λ f. refl; entries = refl; runways = sym (map-id (arc_value c.args.self.now.runways).items); taxi = set; values = refl; briefs = λ kept. none }))

pub returns-in-Values-clause-ok : goal.returns-in-Values-clause-ok
returns-in-Values-clause-ok c =
    rw c.in-Values.is (record { flights = λ f. refl; entries = refl; runways = sym (map-id (arc_value c.args.self.now.runways).items); taxi = refl; values = refl; briefs = λ kept. kept })
