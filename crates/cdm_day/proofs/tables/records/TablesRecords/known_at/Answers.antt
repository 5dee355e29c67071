use Rattle.cdm_day.proofs.{Words.{◌≡◌, Some, sym, get, same_name}, TableLemmas.flight_placed}
use Rattle.std.specs.Prelude.{slice_get}
use Rattle.cdm_plan.proofs.ListWords.{arc_value}
use Rattle.cdm_day.proofs.tables.records.TablesRecords.known_at.Goals as goal

pub returns-clause-flight : goal.returns-clause-flight
returns-clause-flight c =
    let s = c.self.inside in
    let m = arc_value s.parts.flights in
    let key = c.in_ok-flight.field-0-0.now in
    let flight = c.in_ok-flight.flight.now in
    let at : slice_get m.entries c.args.place ≡ Some (key, flight) = rw (← c.deref.ensures) (sym c.in_ok-flight.ensures.entry) in
    let value : get same_name m key ≡ Some flight = rw (← c.deref.ensures) c.in_ok-flight.ensures.value in
    rw (← c.self.view_is) (flight_placed (arc_value s.airport) s.journal m c.self.invariant.flights c.args.place key flight at value)
