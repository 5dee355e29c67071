-- Nobody notices a change of day: the flights that stay stand in the next day's plan as they stood.
use Rattle.std.specs.Prelude.{◌≡◌, ℕ, ◌+◌, ◌<◌, ◌≤◌, Bool, true, false, ◌&&◌, ◌||◌, nat_lt, List, [], All, Contains, Ok}
use Rattle.std.specs.Option.{option_map, option_map_or}
use Rattle.cdm_flight.specs.declared.flight.Flight.{Flight}
use Rattle.cdm_flight.specs.declared.flight.Status.{Status}
use Rattle.cdm_flight.specs.declared.flight.Status.TheVariants.{OffBlock, Airborne}
use Rattle.cdm_flight.specs.declared.role.Role.{Role}
use Rattle.cdm_flight.specs.declared.update.Update.{Update}
use Rattle.cdm_flight.specs.Accepted.{accepted}
use Rattle.cdm_flight.specs.Journal.{AirportRows, values_of}
use Rattle.cdm_flight.specs.Record.{is_planned}
use Rattle.cdm_sequence.specs.declared.plan.Plan.{Plan}
use Rattle.cdm_sequence.specs.declared.plan.RunwayPlan.{RunwayPlan}
use Rattle.cdm_sequence.specs.declared.slot.BlockedFlight.{BlockedFlight}
use Rattle.cdm_sequence.specs.declared.slot.Slot.{Slot}
use Rattle.cdm_plan.specs.Day.{DayRecord}
use Rattle.cdm_plan.specs.DayPlan.{IsDayPlan, records_in}
use Rattle.cdm_files.specs.AirportFile.{airport_in}
use Rattle.cdm_carry.specs.Carry.{carry, stays}
use Rattle.cdm_carry.specs.Laws.{next_minute}

-- Plans.

-- a flight has this slot on a runway
pub record HasSlot (plan : Plan) (r : List ℕ) (x : Slot) : Type 0 where
  pub on : RunwayPlan
  pub among : Contains plan.runways on
  pub runway : on.runway ≡ r
  pub slot : Contains on.slots x

-- a flight is blocked
abbrev pub IsBlocked : Plan → List ℕ → Type 0
IsBlocked plan f = (b : BlockedFlight) × Contains plan.blocked b × (b.name ≡ f)

-- the slot as the next day has it: each of its minutes less a day
abbrev pub next_slot : Slot → Slot
next_slot x = record x { tobt = option_map next_minute x.tobt; ctot = option_map next_minute x.ctot; tsat = next_minute x.tsat; ttot = next_minute x.ttot }

-- no take-off is past the horizon of the day before
abbrev pub EndsInTime : Plan → Type 0
EndsInTime next = All (λ (p : RunwayPlan). All (λ (x : Slot). x.ttot < 1440) p.slots) next.runways

-- each flight that stays has in the next plan the slot that it had, or is blocked there as it was
pub record AreUnnoticed (a : List Update) (plan next : Plan) : Type 0 where
  pub slots : (r : List ℕ) (x : Slot) → stays a x.name ≡ true → HasSlot plan r x → HasSlot next r (next_slot x)
  pub blocked : (f : List ℕ) → stays a f ≡ true → IsBlocked plan f → IsBlocked next f

-- Airports.

-- the next airport has the runways, with their cells, capacities and spacing times, and the taxi times of the airport
pub record IsSameAirport (g h : AirportRows) : Type 0 where
  pub runways : h.runways ≡ g.runways
  pub taxi : h.taxi ≡ g.taxi

-- Days.

-- a flight of this status is LEFT: it left its stand before the next day, which doesn't know it, and isn't airborne
abbrev pub is_left : Status → Bool
is_left (OffBlock aobt exot) = nat_lt aobt 1440
is_left status = false

-- the flight is EARLIER: it is planned, and its TOBT or CTOT was before the next day
abbrev pub is_earlier : Flight → Bool
is_earlier f = is_planned f.status && (option_map_or (λ m. nat_lt m 1440) f.tobt false || option_map_or (λ m. nat_lt m 1440) f.ctot false)

-- it took off an hour ago, at the latest
abbrev pub IsLongGone : ℕ → Status → Type 0
IsLongGone now (Airborne aobt atot) = atot + 60 ≤ now
IsLongGone now status = Unit {0}

-- the day may change: no flight is LEFT, none is EARLIER, and each that is airborne and stays behind took off an hour ago, at
-- the latest
pub record MayChange (d : DayRecord) : Type 0 where
  pub none_left : All (λ f. is_left f.status ≡ false) (records_in d.airport d.journal)
  pub none_earlier : All (λ f. is_earlier f ≡ false) (records_in d.airport d.journal)
  pub long_gone : All (λ f. stays d.journal f.name ≡ false → IsLongGone (values_of d.journal).clock f.status) (records_in d.airport d.journal)

-- The law.

-- the day of an airport after records
abbrev pub day_after : AirportRows → List (Role × Update) → DayRecord
day_after g records = record { airport = g; journal = accepted g [] records }

-- Let a file say the airport, let the next one be the same, let the day change when it may, and let the next plan end in time:
-- then nobody notices.
abbrev pub NobodyNotices : Type 0
NobodyNotices = (text : List ℕ) (g h : AirportRows) (records : List (Role × Update)) (plan next : Plan)
    → airport_in text ≡ Ok g → IsSameAirport g h → MayChange (day_after g records)
    → IsDayPlan (day_after g records) plan → IsDayPlan (day_after h (carry g records h)) next → EndsInTime next
    → AreUnnoticed (accepted g [] records) plan next
