-- Which roles may make which update.
use Rattle.std.specs.Prelude.{Bool, true, false}
use Rattle.cdm_flight.specs.declared.role.Role.{Role}
use Rattle.cdm_flight.specs.declared.role.Role.TheVariants.{AircraftOperator, GroundHandler, AirportOperator, AirTrafficControl, NetworkManager}
use Rattle.cdm_flight.specs.declared.update.Update.{Update}
use Rattle.cdm_flight.specs.declared.update.Update.TheVariants.{Flt, Tobt, Stand, Rwy, Ctot, Ice, Prio, Group, Off, Air, Cnl, Rate, Close, Reopen, Taxi, Clock, Tol}

-- the table of authority: a role may make the updates that are listed with it, and no other
abbrev pub may_make : Role → Update → Bool
may_make AircraftOperator (Tobt f t) = true
may_make AircraftOperator (Cnl f) = true
may_make GroundHandler (Tobt f t) = true
may_make GroundHandler (Ice f i) = true
may_make AirportOperator (Flt f p) = true
may_make AirportOperator (Stand f s) = true
may_make AirportOperator (Group f w) = true
may_make NetworkManager (Ctot f c) = true
may_make NetworkManager (Tol t) = true
may_make AirTrafficControl (Rwy f r) = true
may_make AirTrafficControl (Prio f p) = true
may_make AirTrafficControl (Off f m) = true
may_make AirTrafficControl (Air f m) = true
may_make AirTrafficControl (Rate r from to cap) = true
may_make AirTrafficControl (Close r from to) = true
may_make AirTrafficControl (Reopen r from to) = true
may_make AirTrafficControl (Taxi p r m) = true
may_make AirTrafficControl (Clock m) = true
may_make role u = false
