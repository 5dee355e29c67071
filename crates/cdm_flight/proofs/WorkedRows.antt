-- The definitions of the day, computed on worked examples: a runway 27L with cells of 10 minutes for
-- two flights, and a taxi time of 15 minutes from everywhere.
use Rattle.std.{proofs.Common.{◌≡◌, ℕ, true, false, List, [], ◌∷◌, ◌++◌, None, Some, refl}, specs.Prelude.codes}
use Rattle.std.specs.FinMap as map
use Rattle.cdm_flight.specs.declared.{ice.Ice.TheVariants.Remote, role.Role.Role, update.Update.Update}
use Rattle.cdm_flight.specs.Journal.{AirportRows, cap_of, closed_of, exot_of, flight_of, values_of}
use Rattle.cdm_flight.specs.{Accepted.{refusal, refusal_of, replies_to}, Order.is_before, Spacing.no_spacing}
use Rattle.cdm_flight.specs.declared.place.Place.TheVariants as place
use Rattle.cdm_flight.specs.declared.role.Role.TheVariants as role
use Rattle.cdm_flight.specs.declared.update.Update.TheVariants as update
use Rattle.cdm_flight.specs.declared.word.RefusalWord.TheVariants as word

abbrev r27 : List ℕ
r27 = codes "27L"

abbrev ab1 : List ℕ
ab1 = codes "AB1"

abbrev cd2 : List ℕ
cd2 = codes "CD2"

-- an airport of one runway
abbrev IsBase : AirportRows → Type 0
IsBase g = (g.runways ≡ record { name = r27; cell = 10; cap = 2; spacing = no_spacing } ∷ []) × (map.get g.taxi (place.Default, r27) ≡ Some 15)

-- a flight planned for a TOBT
abbrev planned : List ℕ → ℕ → List (Role × Update)
planned f t = (role.AirportOperator, update.Flt f 5) ∷ (role.AirTrafficControl, update.Rwy f r27) ∷ (role.AircraftOperator, update.Tobt f t) ∷ []

-- a flight without a runway doesn't leave its stand
before_off_block : (g : AirportRows) → IsBase g → replies_to g [] ((role.AirportOperator, update.Flt ab1 5) ∷ (role.AirTrafficControl, update.Air ab1 380)
    ∷ (role.AirTrafficControl, update.Off ab1 360) ∷ (role.AirTrafficControl, update.Rwy ab1 r27) ∷ [])
    ≡ None ∷ Some word.Order ∷ Some word.NotReady ∷ None ∷ []
unfolding replies_to refusal refusal_of exot_of flight_of values_of
before_off_block g base = rw base.0 refl

-- with a runway and a taxi time it does
off_block : (g : AirportRows) → IsBase g → refusal g (update.Flt ab1 5 ∷ update.Rwy ab1 r27 ∷ []) role.AirTrafficControl (update.Off ab1 360) ≡ None
unfolding refusal refusal_of exot_of flight_of
off_block g base = rw base.1 refl

-- then only its take-off, not before it left, and after that nothing
after_off_block : (g : AirportRows) → IsBase g
    → replies_to g (update.Flt ab1 5 ∷ update.Rwy ab1 r27 ∷ update.Off ab1 360 ∷ []) ((role.AircraftOperator, update.Tobt ab1 360)
    ∷ (role.AirTrafficControl, update.Air ab1 359) ∷ (role.AirTrafficControl, update.Air ab1 380) ∷ (role.AircraftOperator, update.Cnl ab1)
    ∷ (role.AirportOperator, update.Flt cd2 5) ∷ (role.AircraftOperator, update.Cnl cd2) ∷ (role.AircraftOperator, update.Tobt cd2 360)
    ∷ (role.AirportOperator, update.Flt cd2 5) ∷ [])
    ≡ Some word.OffBlock ∷ Some word.Order ∷ None ∷ Some word.Ended ∷ None ∷ None ∷ Some word.Ended ∷ Some word.Exists ∷ []
unfolding replies_to refusal refusal_of exot_of flight_of values_of
after_off_block g base = refl

-- a handler may not set a CTOT, a rate keeps the cells, the clock stays or goes on, and a TOBT needs a flight
abbrev refused : List (Role × Update)
refused = (role.AircraftOperator, update.Ctot ab1 (Some 400)) ∷ (role.AirTrafficControl, update.Rate r27 365 380 2) ∷ (role.AirTrafficControl, update.Clock 300)
    ∷ (role.AirTrafficControl, update.Clock 299) ∷ (role.AircraftOperator, update.Tobt (codes "XY9") 360) ∷ (role.AirTrafficControl, update.Clock 300) ∷ []

refused_replies : (g : AirportRows) → IsBase g → replies_to g [] (planned ab1 360 ++ refused) ≡
    None ∷ None ∷ None ∷ Some word.Authority ∷ Some word.Order ∷ None ∷ Some word.Order ∷ Some word.Unknown ∷ None ∷ []
unfolding replies_to refusal refusal_of exot_of flight_of values_of
refused_replies g base = rw base.0 refl

-- OFF fixes the taxi-out time: a later TAXI changes that of the others
abbrev left : List Update
left = update.Flt ab1 5 ∷ update.Rwy ab1 r27 ∷ update.Off ab1 360 ∷ update.Flt cd2 5 ∷ update.Rwy cd2 r27 ∷ []

exot_after_off : (g : AirportRows) → IsBase g
    → (exot_of g (left ++ update.Taxi place.Default r27 40 ∷ []) ab1 ≡ Some 15) × (exot_of g (left ++ update.Taxi place.Default r27 40 ∷ []) cd2 ≡ Some 40)
unfolding exot_of
exot_after_off g base = (rw base.1 refl, refl)

exot_with_ice : (g : AirportRows) → IsBase g → exot_of g (left ++ update.Ice cd2 (Remote 12) ∷ []) cd2 ≡ Some 27
unfolding exot_of
exot_with_ice g base = rw base.1 refl

-- the last of CLOSE and OPEN, and the last RATE, win minute by minute
abbrev closures : List Update
closures = update.Close r27 370 390 ∷ update.Reopen r27 378 380 ∷ []

closed_minutes : (closed_of closures r27 369 ≡ false) × (closed_of closures r27 370 ≡ true) × (closed_of closures r27 377 ≡ true)
    × (closed_of closures r27 378 ≡ false) × (closed_of closures r27 380 ≡ true) × (closed_of closures r27 389 ≡ true) × (closed_of closures r27 390 ≡ false)
closed_minutes = (refl, refl, refl, refl, refl, refl, refl)

abbrev rates : List Update
rates = update.Rate r27 370 390 0 ∷ update.Rate r27 370 380 1 ∷ []

caps : (g : AirportRows) → IsBase g
    → (cap_of g rates r27 369 ≡ 2) × (cap_of g rates r27 370 ≡ 1) × (cap_of g rates r27 379 ≡ 1) × (cap_of g rates r27 380 ≡ 0) × (cap_of g rates r27 390 ≡ 2)
caps g base = rw base.0 (refl, refl, refl, refl, refl)

-- priority, then TOBT, then name by bytes
order : (is_before (record { priority = 1; tobt = 400; name = ab1 }) (record { priority = 5; tobt = 360; name = ab1 }) ≡ true)
    × (is_before (record { priority = 5; tobt = 359; name = cd2 }) (record { priority = 5; tobt = 360; name = ab1 }) ≡ true)
    × (is_before (record { priority = 5; tobt = 360; name = codes "AB10" }) (record { priority = 5; tobt = 360; name = codes "AB2" }) ≡ true)
    × (is_before (record { priority = 5; tobt = 360; name = codes "AB" }) (record { priority = 5; tobt = 360; name = ab1 }) ≡ true)
unfolding is_before
order = (refl, refl, refl, refl)
