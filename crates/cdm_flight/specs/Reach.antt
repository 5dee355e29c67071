-- What updates touch.
use Rattle.std.specs.Prelude.{ℕ, Bool, true, false, List, filter, Option, None, Some}
use Rattle.cdm_flight.specs.declared.reach.Reach.{Reach}
use Rattle.cdm_flight.specs.declared.reach.Reach.TheVariants.{Flight, Runway, Taxi as TaxiTo, Day}
use Rattle.cdm_flight.specs.declared.update.Update.{Update}
use Rattle.cdm_flight.specs.declared.update.Update.TheVariants.{Flt, Tobt, Stand, Rwy, Ctot, Ice, Prio, Group, Off, Air, Cnl, Rate, Close, Reopen, Taxi, Clock, Tol}
use Rattle.cdm_flight.specs.Names.{same_name}

-- what an update touches: a flight, a runway, the taxi times to a runway, or the day
abbrev pub reach_of : Update → Reach
reach_of (Flt f p) = Flight f
reach_of (Tobt f t) = Flight f
reach_of (Stand f s) = Flight f
reach_of (Rwy f r) = Flight f
reach_of (Ctot f c) = Flight f
reach_of (Ice f i) = Flight f
reach_of (Prio f p) = Flight f
reach_of (Group f w) = Flight f
reach_of (Off f m) = Flight f
reach_of (Air f m) = Flight f
reach_of (Cnl f) = Flight f
reach_of (Rate r from to cap) = Runway r
reach_of (Close r from to) = Runway r
reach_of (Reopen r from to) = Runway r
reach_of (Taxi place r minutes) = TaxiTo r
reach_of (Clock m) = Day
reach_of (Tol t) = Day

-- both are the same
abbrev pub same_reach : Reach → Reach → Bool
same_reach (Flight f) (Flight g) = same_name f g
same_reach (Runway r) (Runway s) = same_name r s
same_reach (TaxiTo r) (TaxiTo s) = same_name r s
same_reach Day Day = true
same_reach _ _ = false

-- the updates of a journal that touch it
abbrev pub touching : Reach → List Update → List Update
touching what a = filter (λ u. same_reach (reach_of u) what) a

-- the flight among what can be touched
abbrev pub flight_in : Reach → Option (List ℕ)
flight_in (Flight f) = Some f
flight_in _ = None

-- the runway among what can be touched
abbrev pub runway_in : Reach → Option (List ℕ)
runway_in (Runway r) = Some r
runway_in (TaxiTo r) = Some r
runway_in _ = None

-- the flight that an update is of
abbrev pub flight_of_update : Update → Option (List ℕ)
flight_of_update u = flight_in (reach_of u)

-- the runway that an update is of, or that it gives a flight
abbrev pub runway_of_update : Update → Option (List ℕ)
runway_of_update (Rwy f r) = Some r
runway_of_update u = runway_in (reach_of u)
