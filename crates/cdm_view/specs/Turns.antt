-- The slots of a runway with the keys of their flights.
use Rattle.std.specs.Prelude.{◌≡◌, IsSorted, map}
use Rattle.std.specs.Option.{option_and_then}
use Rattle.cdm_flight.specs.Journal.{flight_of}
use Rattle.cdm_flight.specs.Record.{key_of}
use Rattle.cdm_sequence.specs.Slots.{slot_cmp}
use Rattle.cdm_sequence.specs.declared.slot.Slot.{Slot}
use Rattle.cdm_plan.specs.Day.{DayRecord}
use Rattle.cdm_view.specs.Reasons.{slots_on}
use Rattle.cdm_view.specs.declared.turns.Turn.{Turn}
use Rattle.cdm_view.specs.declared.turns.Turns.{Turns}

-- a slot with the key of its flight, if the day knows it and it has one
abbrev pub turn_in : DayRecord → Slot → Turn
turn_in d s = record { slot = s; key = option_and_then key_of (flight_of d.airport d.journal s.name) }

-- these are the slots of the runway, by take-off and name, with the keys of the day
pub record AreTurns (d : DayRecord) (turns : Turns) : Type 0 where
  pub items : turns.items.items ≡ map (turn_in d) (slots_on turns.plan.now turns.runway)
  pub order : IsSorted slot_cmp (slots_on turns.plan.now turns.runway)
