-- The text that says what holds a flight, line by line.
use Rattle.std.specs.Prelude.{◌≡◌, ℕ, ◌+◌, List, [], ◌∷◌, ◌++◌, codes, flat_map, Option, None, Some, unwrap_or, if◌then◌else◌, IsSome, MatchOption}
use Rattle.std.specs.Fmt.{decimal}
use Rattle.std.specs.List.{concat, find}
use Rattle.std.specs.Option.{option_and_then, option_map_or}
use Rattle.cdm_time.specs.declared.calendar.CalendarDate.{CalendarDate}
use Rattle.cdm_flight.specs.declared.flight.Status.{Status}
use Rattle.cdm_flight.specs.declared.flight.Status.TheVariants.{Planned, OffBlock, Airborne, Cancelled}
use Rattle.cdm_flight.specs.declared.group.Group.{Group}
use Rattle.cdm_flight.specs.declared.group.Group.TheVariants.{Light, Medium, Heavy}
use Rattle.cdm_flight.specs.declared.ice.Ice.{Ice}
use Rattle.cdm_flight.specs.declared.ice.Ice.TheVariants.{NoIce, AtStand, Remote}
use Rattle.cdm_flight.specs.Journal.{taxi_of}
use Rattle.cdm_flight.specs.Names.{same_name}
use Rattle.cdm_flight.specs.Record.{is_planned}
use Rattle.cdm_flight.specs.declared.flight.Flight.{Flight}
use Rattle.cdm_sequence.specs.declared.slot.BlockedFlight.{BlockedFlight}
use Rattle.cdm_sequence.specs.Aims.{exot_to}
use Rattle.cdm_sequence.specs.declared.plan.Plan.{Plan}
use Rattle.cdm_sequence.specs.declared.slot.Slot.{Slot}
use Rattle.cdm_sequence.specs.Words.{rule_text}
use Rattle.cdm_plan.specs.Day.{DayRecord}
use Rattle.cdm_report.specs.Columns.{time_column}
use Rattle.cdm_report.specs.Report.{day_line, line_end}
use Rattle.cdm_view.specs.declared.fault.ViewFault.{ViewFault}
use Rattle.cdm_view.specs.declared.fault.ViewFault.TheVariants as fault
use Rattle.cdm_view.specs.declared.reason.Reason.{Reason}
use Rattle.cdm_view.specs.declared.reason.Reason.TheVariants as reason
use Rattle.cdm_view.specs.declared.runs.Run.{Run}
use Rattle.cdm_view.specs.Reasons.{Waiting, reason_at, slots_on, waiting_of}
use Rattle.cdm_view.specs.Runs.{AreRuns}

-- What is known of the flight.

-- a name, or a dash where there is none
abbrev pub name_or_dash : Option (List ℕ) → List ℕ
name_or_dash name = unwrap_or name (codes "-")

-- a number of minutes, or a dash where there is none
unfoldable pub minutes_or_dash : Option ℕ → List ℕ
minutes_or_dash minutes = option_map_or decimal minutes (codes "-")

-- the letter of a group
abbrev pub group_letter : Group → List ℕ
group_letter Light = codes "L"
group_letter Medium = codes "M"
group_letter Heavy = codes "H"

-- where the flight is de-iced, and for how many minutes
unfoldable pub ice_told : Ice → List ℕ
ice_told NoIce = codes "NONE 0"
ice_told (AtStand minutes) = codes "STAND " ++ decimal minutes
ice_told (Remote minutes) = codes "REMOTE " ++ decimal minutes

-- the taxi-out time: of a flight on its stand as it is known now, off-block as it was fixed then
abbrev pub exot_known : DayRecord → Flight → Status → Option ℕ
exot_known d f Planned = option_and_then (exot_to (taxi_of d.airport d.journal) f) f.runway
exot_known d f (OffBlock aobt exot) = Some exot
exot_known d f (Airborne aobt atot) = None
exot_known d f Cancelled = None

-- the flight with its runway, stand, priority and group
unfoldable pub flight_line : Flight → List ℕ
flight_line f = concat (
    codes "FLIGHT " ∷ f.name ∷ codes " RUNWAY " ∷ name_or_dash f.runway ∷ codes " STAND " ∷ name_or_dash f.stand
    ∷ codes " PRIORITY " ∷ decimal f.priority ∷ codes " GROUP " ∷ group_letter f.group ∷ line_end ∷ [])

-- its TOBT, de-icing, taxi-out time and CTOT
unfoldable pub times_line : CalendarDate → Flight → Option ℕ → List ℕ
times_line day f exot = concat (
    codes "TOBT " ∷ time_column day f.tobt ∷ codes " ICE " ∷ ice_told f.ice ∷ codes " EXOT " ∷ minutes_or_dash exot
    ∷ codes " CTOT " ∷ time_column day f.ctot ∷ line_end ∷ [])

-- What holds it.

-- a name with a blank before it
abbrev pub name_told : List ℕ → List ℕ
name_told name = codes " " ++ name

-- a reason, with the cap and the names of flights that it has
unfoldable pub reason_told : Reason → List ℕ
reason_told reason.Ice = codes "ICE"
reason_told reason.Now = codes "NOW"
reason_told reason.Ctot = codes "CTOT"
reason_told reason.Closure = codes "CLOSURE"
reason_told (reason.Spacing names) = codes "SPACING" ++ flat_map name_told names
reason_told (reason.Rate cap names) = codes "RATE " ++ decimal cap ++ flat_map name_told names

-- a run of minutes at which the flight can't take off, and why
unfoldable pub wait_line : CalendarDate → Run → List ℕ
wait_line day run = concat (
    codes "WAIT " ∷ time_column day (Some run.first) ∷ codes " " ∷ time_column day (Some run.last) ∷ codes " " ∷ reason_told run.reason ∷ line_end ∷ [])

-- the flight's slot on its runway
abbrev pub own_slot : Plan → Flight → Option Slot
own_slot plan f = option_and_then (λ r. find (λ s. same_name s.name f.name) (slots_on plan r)) f.runway

-- what the flight waits for, on its stand
abbrev pub waits_for : DayRecord → Plan → Flight → Option Waiting
waits_for d plan f = if is_planned f.status then waiting_of d plan f else None

-- the runs of its waiting up to its take-off, or up to the horizon's end where the plan has none; no run, where it
-- waits for nothing
abbrev pub AreWaits : DayRecord → Plan → Flight → List Run → Type 0
AreWaits d plan f runs =
    MatchOption (waits_for d plan f) (runs ≡ []) (λ w. AreRuns (reason_at w) (w.tobt + w.exot) (option_map_or (λ s. s.ttot) (own_slot plan f) 2880) runs)

-- What comes of it.

-- a planned take-off: start-up, take-off and delay
unfoldable pub slot_line : CalendarDate → Slot → List ℕ
slot_line day s = concat (
    codes "TSAT " ∷ time_column day (Some s.tsat) ∷ codes " TTOT " ∷ time_column day (Some s.ttot) ∷ codes " DELAY " ∷ minutes_or_dash s.delay ∷ line_end ∷ [])

-- the rule that leaves the flight no minute
unfoldable pub blocked_line : BlockedFlight → List ℕ
blocked_line b = concat (codes "BLOCKED " ∷ rule_text b.rule ∷ line_end ∷ [])

-- its slot, else the rule that blocks it; no line, where the plan has neither
abbrev pub plan_line : CalendarDate → Option Slot → Option BlockedFlight → List ℕ
plan_line day (Some s) blocked = slot_line day s
plan_line day None (Some b) = blocked_line b
plan_line day None None = []

-- off-block, and then its take-off
abbrev pub left_line : CalendarDate → ℕ → List ℕ → ℕ → List ℕ
left_line day aobt word takeoff =
    concat (codes "OFFBLOCK " ∷ time_column day (Some aobt) ∷ codes " " ∷ word ∷ codes " " ∷ time_column day (Some takeoff) ∷ line_end ∷ [])

-- what the plan gives the flight, or how far it has come
unfoldable pub outcome_line : CalendarDate → Plan → Flight → Status → List ℕ
outcome_line day plan f Planned = plan_line day (own_slot plan f) (find (λ b. same_name b.name f.name) plan.blocked)
outcome_line day plan f (OffBlock aobt exot) = left_line day aobt (codes "TTOT") (aobt + exot)
outcome_line day plan f (Airborne aobt atot) = left_line day aobt (codes "AIRBORNE") atot
outcome_line day plan f Cancelled = codes "CANCELLED" ++ line_end

-- The text.

-- the text with these runs
unfoldable pub why_bytes : DayRecord → Plan → Flight → List Run → List ℕ
why_bytes d plan f runs =
    day_line d.airport.day plan.clock
    ++ flight_line f
    ++ times_line d.airport.day f (exot_known d f f.status)
    ++ flat_map (wait_line d.airport.day) runs
    ++ outcome_line d.airport.day plan f f.status

-- the text says what holds the flight
pub record IsWhy (d : DayRecord) (plan : Plan) (f : Flight) (text : List ℕ) : Type 0 where
  pub runs : List Run
  pub waits : AreWaits d plan f runs
  pub bytes : text ≡ why_bytes d plan f runs

-- no such flight is known, or there was no memory for the text
abbrev pub IsWhyFault : Option Flight → List ℕ → ViewFault → Type 0
IsWhyFault known name (fault.NoFlight f) = (f ≡ name) × (known ≡ None)
IsWhyFault known name (fault.NoRunway r) = ⊥
IsWhyFault known name fault.Memory = IsSome known
