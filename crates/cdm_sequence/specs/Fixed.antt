-- Flights that have left their stands.
use Rattle.std.specs.Prelude.{◌+◌, ◌-◌, List, Option, Some, None, map}
use Rattle.cdm_flight.specs.declared.flight.Flight.{Flight}
use Rattle.cdm_flight.specs.declared.flight.Status.{Status}
use Rattle.cdm_flight.specs.declared.flight.Status.TheVariants as status
use Rattle.cdm_runway.specs.Rules.{RunwayRules}
use Rattle.cdm_runway.specs.Room.{taken_by}
use Rattle.cdm_runway.specs.declared.load.Taken.{Taken}
use Rattle.cdm_sequence.specs.declared.slot.Slot.{Slot}
use Rattle.cdm_sequence.specs.declared.slot.Mark.TheVariants.{OffBlock, Airborne}

-- off-block it takes off its fixed taxi-out time after the AOBT; airborne it took off at the ATOT
abbrev pub slot_by : Flight → Status → Option Slot
slot_by f (status.OffBlock aobt exot) =
    Some (record { name = f.name; tobt = f.tobt; exot = exot; ctot = f.ctot; group = f.group; tsat = aobt; ttot = aobt + exot; mark = OffBlock; delay = None })
slot_by f (status.Airborne aobt atot) =
    Some (record { name = f.name; tobt = f.tobt; exot = atot - aobt; ctot = f.ctot; group = f.group; tsat = aobt; ttot = atot; mark = Airborne; delay = None })
slot_by f _ = None

-- the slot of a flight that has left its stand
unfoldable pub fixed_slot : Flight → Option Slot
fixed_slot f = slot_by f f.status

-- what fixed flights take of a runway
abbrev pub takeoffs : RunwayRules → List Slot → List Taken
takeoffs r fixed = map (λ x. taken_by r x.group x.ttot) fixed
