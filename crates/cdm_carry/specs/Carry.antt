-- What of a day goes on in the next one. Minute m of a day, from 1440 on, is minute m - 1440 of the next day.
use Rattle.std.specs.Prelude.{ℕ, ◌-◌, Bool, true, false, not, ◌&&◌, nat_le, nat_lt, List, [], ◌∷◌, Option, is_none, if◌then◌else◌}
use Rattle.std.specs.Bool.{then_some}
use Rattle.std.specs.List.{filter_map, list_any}
use Rattle.std.specs.Option.{option_map, option_map_or}
use Rattle.cdm_flight.specs.declared.role.Role.{Role}
use Rattle.cdm_flight.specs.declared.update.Update.{Update}
use Rattle.cdm_flight.specs.declared.update.Update.TheVariants.{Tobt, Ctot, Off, Air, Rate, Close, Reopen, Clock}
use Rattle.cdm_flight.specs.Accepted.{accepted, after_one, refusal}
use Rattle.cdm_flight.specs.Journal.{AirportRows, is_cancel, is_known, of_flight}
use Rattle.cdm_flight.specs.Reach.{flight_of_update}

-- Flights.

-- an OFF with an AOBT before the next day
abbrev pub left_before : Update → Bool
left_before (Off f aobt) = nat_lt aobt 1440
left_before _ = false

-- a flight stays: it has an FLT, no CNL, and no OFF with an AOBT before the next day
abbrev pub stays : List Update → List ℕ → Bool
stays a f = is_known a f && not (list_any is_cancel (of_flight f a)) && not (list_any left_before (of_flight f a))

-- Updates.

-- an update goes on: one of a flight that stays, a window that ends after the next day begins, a CLOCK in the next day, each
-- TAXI and each TOL
abbrev pub goes_on : List Update → Update → Bool
goes_on a (Rate r from to cap) = nat_lt 1440 to
goes_on a (Close r from to) = nat_lt 1440 to
goes_on a (Reopen r from to) = nat_lt 1440 to
goes_on a (Clock m) = nat_le 1440 m
goes_on a u = option_map_or (stays a) (flight_of_update u) true

-- the update as the next day has it: with minute 0 in place of each minute that was before it
abbrev pub moved : Update → Update
moved (Tobt f m) = Tobt f (m - 1440)
moved (Ctot f c) = Ctot f (option_map (λ m. m - 1440) c)
moved (Off f m) = Off f (m - 1440)
moved (Air f m) = Air f (m - 1440)
moved (Rate r from to cap) = Rate r (from - 1440) (to - 1440) cap
moved (Close r from to) = Close r (from - 1440) (to - 1440)
moved (Reopen r from to) = Reopen r (from - 1440) (to - 1440)
moved (Clock m) = Clock (m - 1440)
moved u = u

-- the update as the next day has it, or none
abbrev pub carried : List Update → Update → Option Update
carried a u = then_some (goes_on a u) (moved u)

-- Records: updates, each with the role that sent it.

-- those that an airport accepts, one after another behind these updates
unfoldable pub taken : AirportRows → List Update → List (Role × Update) → List (Role × Update)
taken g a [] = []
taken g a (p ∷ later) = if is_none (refusal g a p.0 p.1) then p ∷ taken g (after_one g a p) later else taken g (after_one g a p) later

-- a record as the next day has it, or none
abbrev pub carried_record : List Update → Role × Update → Option (Role × Update)
carried_record a p = option_map (λ u. (p.0, u)) (carried a p.1)

-- those that the next day has, in their order
abbrev pub carried_all : List Update → List (Role × Update) → List (Role × Update)
carried_all a records = filter_map (carried_record a) records

-- what the next airport has of the records of a day: of those that the airport accepts the ones that are carried, as far as the
-- next airport accepts them
unfoldable pub carry : AirportRows → List (Role × Update) → AirportRows → List (Role × Update)
carry g records h = taken h [] (carried_all (accepted g [] records) (taken g [] records))
