-- What an update that no word refuses puts where.
use Rattle.std.specs.Prelude.{◌≡◌, ℕ, Bool, true, false, nat_lt, List, [], ◌∷◌, ◌++◌, Some}
use Rattle.cdm_flight.specs.declared.airport.RunwayRow.{RunwayRow}
use Rattle.cdm_flight.specs.declared.reach.Reach.TheVariants as reach
use Rattle.cdm_flight.specs.declared.update.Update.{Update}
use Rattle.cdm_flight.specs.declared.update.Update.TheVariants as kind
use Rattle.cdm_flight.specs.Reach.{reach_of}
use Rattle.cdm_flight.specs.Step.{is_fresh}
use Rattle.cdm_flight.specs.Journal.{flight_of, runway_row, values_of}
use Rattle.cdm_runway.specs.Rules.{RunwayRules, is_rate_window, with_rate, with_closed}
use Rattle.cdm_plan.specs.Day.{DayRecord, rules_of}
use Rattle.cdm_day.specs.declared.change.Change.{Change}
use Rattle.cdm_day.specs.declared.change.Change.TheVariants.{NewFlight, NextRecord, Runway, TaxiRow, Values}
use Rattle.cdm_day.specs.declared.change.RunwayChange.{RunwayChange}
use Rattle.cdm_day.specs.declared.change.RunwayChange.TheVariants.{Rate, Closure}

-- the runway with the change
abbrev pub with_change : RunwayChange → RunwayRules → RunwayRules
with_change (Rate from to cap) rules = with_rate rules from to cap
with_change (Closure from to closed) rules = with_closed rules from to closed

-- the change's window has a minute and, for a rate, cuts none of the runway's cells
abbrev pub has_window : RunwayChange → RunwayRules → Bool
has_window (Rate from to cap) rules = is_rate_window rules.cell from to
has_window (Closure from to closed) rules = nat_lt from to

-- with the change, for which there is a window, a runway of the airport allows what the longer journal says
pub record ChangesRunway (d : DayRecord) (u : Update) (r : List ℕ) (change : RunwayChange) : Type 0 where
  pub of_it : reach_of u ≡ reach.Runway r
  pub row : RunwayRow
  pub known : runway_row d.airport r ≡ Some row
  pub window : has_window change (rules_of d.airport d.journal row) ≡ true
  pub allows : with_change change (rules_of d.airport d.journal row) ≡ rules_of d.airport (d.journal ++ u ∷ []) row

-- what the update puts where, if no word refuses it: the record that the longer journal says of its flight, which
-- an FLT makes known; what its runway then allows; the taxi time of a TAXI; or the values that the longer
-- journal says of the day
abbrev pub IsChange : DayRecord → Update → Change → Type 0
IsChange d u (NewFlight r) = (reach_of u ≡ reach.Flight r.name) × (is_fresh u ≡ true) × (flight_of d.airport (d.journal ++ u ∷ []) r.name ≡ Some r)
IsChange d u (NextRecord r) = (reach_of u ≡ reach.Flight r.name) × (is_fresh u ≡ false) × (flight_of d.airport (d.journal ++ u ∷ []) r.name ≡ Some r)
IsChange d u (Runway r change) = ChangesRunway d u r change
IsChange d u (TaxiRow place r minutes) = u ≡ kind.Taxi place r minutes
IsChange d u (Values values) = (reach_of u ≡ reach.Day) × (values_of (d.journal ++ u ∷ []) ≡ values)
