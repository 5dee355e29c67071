-- What a journal says: a list of accepted updates, oldest first, over the rows of an airport.
use Rattle.std.specs.Prelude.{ℕ, Bool, true, false, not, ◌&&◌, List, Option, None, Some, is_some, unwrap_or}
use Rattle.std.specs.Bool.{then_some}
use Rattle.std.specs.Option.{option_and_then, option_eq, option_map, option_map_or, option_or}
use Rattle.std.specs.List.{find, fold, list_any, take_while}
use Rattle.std.specs.FinMap as map
use Rattle.cdm_time.specs.Windows.{usual_tolerance, window_has}
use Rattle.cdm_time.specs.declared.tolerance.Tolerance.{Tolerance}
use Rattle.cdm_time.specs.declared.calendar.CalendarDate.{CalendarDate}
use Rattle.cdm_flight.specs.declared.airport.RunwayRow.{RunwayRow}
use Rattle.cdm_flight.specs.declared.group.Group.{Group}
use Rattle.cdm_flight.specs.declared.group.Group.TheVariants.{Medium}
use Rattle.cdm_flight.specs.declared.ice.Ice.{Ice}
use Rattle.cdm_flight.specs.declared.ice.Ice.TheVariants.{NoIce}
use Rattle.cdm_flight.specs.declared.place.Place.{Place}
use Rattle.cdm_flight.specs.declared.flight.Status.{Status}
use Rattle.cdm_flight.specs.declared.flight.Status.TheVariants.{Planned, OffBlock, Airborne, Cancelled}
use Rattle.cdm_flight.specs.declared.reach.Reach.TheVariants as reach
use Rattle.cdm_flight.specs.declared.update.Update.{Update}
use Rattle.cdm_flight.specs.declared.update.Update.TheVariants.{Flt, Tobt, Stand, Rwy, Ctot, Ice as IceOf, Prio, Group as GroupOf, Off, Air, Cnl, Rate, Close, Reopen, Taxi, Clock, Tol}
use Rattle.cdm_flight.specs.declared.values.DayValues.{DayValues}
use Rattle.cdm_flight.specs.Names.{same_name}
use Rattle.cdm_flight.specs.declared.flight.Flight.{Flight}
use Rattle.cdm_flight.specs.Reach.{reach_of, same_reach, touching}
use Rattle.cdm_flight.specs.Step.{is_fresh}
use Rattle.cdm_flight.specs.Taxi.{TaxiRows, stand_of_place, taxi_out}

-- the rows of an airport file: its day, its runways in order, and its last taxi row of each place
-- and runway
pub record AirportRows : Type 0 where
  pub day : CalendarDate
  pub runways : List RunwayRow
  pub taxi : TaxiRows

-- the airport's row of a runway
abbrev pub runway_row : AirportRows → List ℕ → Option RunwayRow
runway_row g r = find (λ row. same_name row.name r) g.runways

-- the value that the last update that gives one gives
abbrev pub last_value : {U X : Type 0} → (U → Option X) → List U → Option X
last_value given updates = fold (λ before u. option_or (given u) before) None updates

-- What an update gives to what it touches.

abbrev pub tobt_given : Update → Option ℕ
tobt_given (Tobt f t) = Some t
tobt_given _ = None

abbrev pub stand_given : Update → Option (List ℕ)
stand_given (Stand f s) = Some s
stand_given _ = None

abbrev pub runway_given : Update → Option (List ℕ)
runway_given (Rwy f r) = Some r
runway_given _ = None

-- a CTOT, or none any more
abbrev pub ctot_given : Update → Option (Option ℕ)
ctot_given (Ctot f c) = Some c
ctot_given _ = None

abbrev pub ice_given : Update → Option Ice
ice_given (IceOf f i) = Some i
ice_given _ = None

abbrev pub priority_given : Update → Option ℕ
priority_given (Flt f p) = Some p
priority_given (Prio f p) = Some p
priority_given _ = None

abbrev pub group_given : Update → Option Group
group_given (GroupOf f w) = Some w
group_given _ = None

abbrev pub aobt_given : Update → Option ℕ
aobt_given (Off f m) = Some m
aobt_given _ = None

abbrev pub atot_given : Update → Option ℕ
atot_given (Air f m) = Some m
atot_given _ = None

-- it is a CNL
abbrev pub is_cancel : Update → Bool
is_cancel (Cnl f) = true
is_cancel _ = false

abbrev pub cap_given : ℕ → Update → Option ℕ
cap_given m (Rate r from to cap) = then_some (window_has from to m) cap
cap_given m _ = None

abbrev pub closed_given : ℕ → Update → Option Bool
closed_given m (Close r from to) = then_some (window_has from to m) true
closed_given m (Reopen r from to) = then_some (window_has from to m) false
closed_given m _ = None

-- the same stand, or the default both
abbrev pub same_place : Place → Place → Bool
same_place p q = option_eq same_name (stand_of_place p) (stand_of_place q)

abbrev pub taxi_given : Place → Update → Option ℕ
taxi_given place (Taxi p r minutes) = then_some (same_place p place) minutes
taxi_given place _ = None

abbrev pub clock_given : Update → Option ℕ
clock_given (Clock m) = Some m
clock_given _ = None

abbrev pub tolerance_given : Update → Option Tolerance
tolerance_given (Tol t) = Some t
tolerance_given _ = None

-- Last values of a flight.

-- the updates of the flight
abbrev pub of_flight : List ℕ → List Update → List Update
of_flight f a = touching (reach.Flight f) a

abbrev pub runway_of : List Update → List ℕ → Option (List ℕ)
runway_of a f = last_value runway_given (of_flight f a)

-- there is an FLT of the flight
abbrev pub is_known : List Update → List ℕ → Bool
is_known a f = list_any is_fresh (of_flight f a)

-- Last values of the day, of runways and of taxi times.

-- the clock: the last CLOCK, at first minute 0; the tolerance: the last TOL, at first the usual one
unfoldable pub values_of : List Update → DayValues
values_of a = record {
  clock = unwrap_or (last_value clock_given (touching reach.Day a)) 0;
  tolerance = unwrap_or (last_value tolerance_given (touching reach.Day a)) usual_tolerance;
}

-- the capacity of a minute's cell: the last RATE of the runway whose window has the minute, else
-- the airport's
abbrev pub cap_of : AirportRows → List Update → List ℕ → ℕ → ℕ
cap_of g a r m = unwrap_or (last_value (cap_given m) (touching (reach.Runway r) a)) (option_map_or (λ row. row.cap) (runway_row g r) 0)

-- the last CLOSE or OPEN of the runway whose window has the minute is a CLOSE
abbrev pub closed_of : List Update → List ℕ → ℕ → Bool
closed_of a r m = unwrap_or (last_value (closed_given m) (touching (reach.Runway r) a)) false

-- the last TAXI of the place and runway, else the airport's row
abbrev pub taxi_of : AirportRows → List Update → Place → List ℕ → Option ℕ
taxi_of g a place r = option_or (last_value (taxi_given place) (touching (reach.Taxi r) a)) (map.get g.taxi (place, r))

-- Taxi-out times.

-- the taxi-out time of the flight to its runway, as it is known now
abbrev pub exot_now : AirportRows → List Update → List ℕ → Option ℕ
exot_now g a f =
    let own = of_flight f a in
    option_and_then (λ r. taxi_out (λ place. taxi_of g a place r) (last_value stand_given own) (unwrap_or (last_value ice_given own) NoIce)) (last_value runway_given own)

-- the taxi-out time of the flight: its OFF fixes it, and what comes before that in the journal says it
unfoldable pub exot_of : AirportRows → List Update → List ℕ → Option ℕ
exot_of g a f = exot_now g (take_while (λ u. not (same_reach (reach_of u) (reach.Flight f) && is_some (aobt_given u))) a) f

-- The flight's record.

-- cancelled, else airborne, else off-block, else planned, else absent
abbrev pub status_from : Bool → Option ℕ → Option ℕ → Option ℕ → Bool → Option Status
status_from true atot aobt exot known = Some Cancelled
status_from false (Some atot) aobt exot known = Some (Airborne (unwrap_or aobt 0) atot)
status_from false None (Some aobt) exot known = Some (OffBlock aobt (unwrap_or exot 0))
status_from false None None exot known = then_some known Planned

-- how far the flight has come, if it is known
abbrev pub status_of : AirportRows → List Update → List ℕ → Option Status
status_of g a f =
    let own = of_flight f a in
    status_from (list_any is_cancel own) (last_value atot_given own) (last_value aobt_given own) (exot_of g a f) (is_known a f)

-- all the last values of a flight among its updates
abbrev pub record_with : List ℕ → List Update → Status → Flight
record_with f own status = record {
  name = f;
  priority = unwrap_or (last_value priority_given own) 0;
  tobt = last_value tobt_given own;
  stand = last_value stand_given own;
  runway = last_value runway_given own;
  ctot = unwrap_or (last_value ctot_given own) None;
  ice = unwrap_or (last_value ice_given own) NoIce;
  group = unwrap_or (last_value group_given own) Medium;
  status = status;
}

-- what the journal says of a flight, if it is known
unfoldable pub flight_of : AirportRows → List Update → List ℕ → Option Flight
flight_of g a f = option_map (record_with f (of_flight f a)) (status_of g a f)
