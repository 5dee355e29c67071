-- What held a flight that has a slot, minute by minute.
use Rattle.std.specs.Prelude.{ℕ, ◌+◌, ◌-◌, List, [], Option, Some}
use Rattle.std.specs.List.{filter_map, range_with_len}
use Rattle.std.specs.Option.{option_map_or}
use Rattle.cdm_flight.specs.Journal.{flight_of}
use Rattle.cdm_flight.specs.declared.flight.Flight.{Flight}
use Rattle.cdm_sequence.specs.declared.plan.Plan.{Plan}
use Rattle.cdm_sequence.specs.declared.slot.Slot.{Slot}
use Rattle.cdm_plan.specs.Day.{DayRecord}
use Rattle.cdm_view.specs.Causes.{cause_at}
use Rattle.cdm_view.specs.Reasons.{Waiting}
use Rattle.cdm_view.specs.Why.{own_slot, waits_for}
use Rattle.cdm_view.specs.declared.cause.Cause.{Cause}

-- the minutes from the earliest at which a flight could take off up to its take-off
abbrev pub waited : Waiting → Slot → List ℕ
waited w s = range_with_len (w.tobt + w.exot) (s.ttot - (w.tobt + w.exot))

-- the causes of these minutes, in their order
abbrev pub causes_until : Option Waiting → Option Slot → List Cause
causes_until (Some w) (Some s) = filter_map (cause_at w) (waited w s)
causes_until _ _ = []

-- what held a flight on its stand, minute by minute: nothing where it doesn't wait or has no slot
abbrev pub causes_of : DayRecord → Plan → Flight → List Cause
causes_of d plan f = causes_until (waits_for d plan f) (own_slot plan f)

-- what held the flight of this name, if it is known
unfoldable pub causes_named : DayRecord → Plan → List ℕ → List Cause
causes_named d plan name = option_map_or (causes_of d plan) (flight_of d.airport d.journal name) []
