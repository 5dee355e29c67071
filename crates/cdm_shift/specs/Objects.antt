-- What a shift is told, as JSON: an object on a line of its own for each start-up, warning or group.
use Rattle.std.specs.Prelude.{ℕ, List, [], ◌∷◌, ◌++◌, codes, flat_map, map, Option}
use Rattle.json.specs.Json.{Json}
use Rattle.cdm_time.specs.declared.calendar.CalendarDate.{CalendarDate}
use Rattle.cdm_runway.specs.Rules.{RunwayRules}
use Rattle.cdm_sequence.specs.declared.plan.Plan.{Plan}
use Rattle.cdm_plan.specs.Day.{DayRecord}
use Rattle.cdm_json.specs.Lines.{json_line}
use Rattle.cdm_row.specs.Columns.{Value, if_any, rule_value}
use Rattle.cdm_row.specs.Columns.Value.{nothing, text, number, minute}
use Rattle.cdm_row.specs.Json.{json_value, object_of}
use Rattle.cdm_row.specs.declared.row.Row.{Row}
use Rattle.cdm_view.specs.Why.{name_or_dash}
use Rattle.cdm_view.specs.declared.cause.Cause.{Cause}
use Rattle.cdm_shift.specs.Costs.{costs_of, on_stand, rows_in, told_groups}
use Rattle.cdm_shift.specs.Lines.{cause_word}
use Rattle.cdm_shift.specs.StartUps.{start_ups}
use Rattle.cdm_shift.specs.Warnings.{warnings}
use Rattle.cdm_shift.specs.declared.costs.Costs.{Costs}
use Rattle.cdm_shift.specs.declared.question.GroupBy.{GroupBy}
use Rattle.cdm_shift.specs.declared.start_ups.StartUp.{StartUp}
use Rattle.cdm_shift.specs.declared.warning.Warning.{Warning}
use Rattle.cdm_shift.specs.declared.warning.Warning.TheVariants.{Overdue, Missed, Blocked, Edge, Past, Ahead, Full, Shut}

-- a member, by its name and value
abbrev pub member_of : CalendarDate → List ℕ × Value → List ℕ × Json
member_of day m = (m.0, json_value day m.1)

-- the object of these members, on a line
abbrev pub object_line : CalendarDate → List (List ℕ × Value) → List ℕ
object_line day members = json_line (object_of (map (member_of day) members))

abbrev pub cause_value : Cause → Value
cause_value c = text (cause_word c)

-- a start-up
unfoldable pub start_up_members : StartUp → List (List ℕ × Value)
start_up_members s =
    (codes "tsat", if_any minute s.row.tsat) ∷ (codes "flight", text s.row.flight) ∷ (codes "runway", if_any text s.row.runway)
    ∷ (codes "stand", if_any text s.row.stand) ∷ (codes "tobt", if_any minute s.row.tobt) ∷ (codes "ctot", if_any minute s.row.ctot)
    ∷ (codes "ttot", if_any minute s.row.ttot) ∷ (codes "delay", if_any number s.row.delay) ∷ (codes "cause", if_any cause_value s.cause) ∷ []

-- the kind of a warning
abbrev pub kind_word : Warning → List ℕ
kind_word (Overdue name ttot) = codes "OVERDUE"
kind_word (Missed name ctot ttot) = codes "MISSED"
kind_word (Blocked name rule ctot) = codes "BLOCKED"
kind_word (Edge name ctot ttot) = codes "EDGE"
kind_word (Past name tobt tsat) = codes "PAST"
kind_word (Ahead name m) = codes "AHEAD"
kind_word (Full runway m placed cap) = codes "FULL"
kind_word (Shut name runway ttot) = codes "SHUT"

-- its flight, but for a cell
abbrev pub flight_value : Warning → Value
flight_value (Overdue name ttot) = text name
flight_value (Missed name ctot ttot) = text name
flight_value (Blocked name rule ctot) = text name
flight_value (Edge name ctot ttot) = text name
flight_value (Past name tobt tsat) = text name
flight_value (Ahead name m) = text name
flight_value (Full runway m placed cap) = nothing
flight_value (Shut name runway ttot) = text name

-- the runway that is too full or closed
abbrev pub runway_value : Warning → Value
runway_value (Full runway m placed cap) = text runway
runway_value (Shut name runway ttot) = text runway
runway_value _ = nothing

-- the TSAT of a flight that could have gone, when a flight left its stand or took off, or when a cell begins
abbrev pub time_value : Warning → Value
time_value (Past name tobt tsat) = minute tsat
time_value (Ahead name m) = minute m
time_value (Full runway m placed cap) = minute m
time_value _ = nothing

abbrev pub ctot_value : Warning → Value
ctot_value (Missed name ctot ttot) = minute ctot
ctot_value (Blocked name rule ctot) = if_any minute ctot
ctot_value (Edge name ctot ttot) = minute ctot
ctot_value _ = nothing

abbrev pub ttot_value : Warning → Value
ttot_value (Overdue name ttot) = minute ttot
ttot_value (Missed name ctot ttot) = minute ttot
ttot_value (Edge name ctot ttot) = minute ttot
ttot_value (Shut name runway ttot) = minute ttot
ttot_value _ = nothing

-- the rule that blocks a flight
abbrev pub rule_told : Warning → Value
rule_told (Blocked name rule ctot) = rule_value rule
rule_told _ = nothing

-- how many flights a cell has, and may have
abbrev pub placed_value : Warning → Value
placed_value (Full runway m placed cap) = number placed
placed_value _ = nothing

abbrev pub cap_value : Warning → Value
cap_value (Full runway m placed cap) = number cap
cap_value _ = nothing

unfoldable pub warning_members : Warning → List (List ℕ × Value)
warning_members w =
    (codes "kind", text (kind_word w)) ∷ (codes "flight", flight_value w) ∷ (codes "runway", runway_value w) ∷ (codes "time", time_value w)
    ∷ (codes "ctot", ctot_value w) ∷ (codes "ttot", ttot_value w) ∷ (codes "rule", rule_told w) ∷ (codes "placed", placed_value w)
    ∷ (codes "cap", cap_value w) ∷ []

-- the costs of a group
unfoldable pub costs_members : List ℕ → Costs → List (List ℕ × Value)
costs_members name c =
    (codes "group", text name) ∷ (codes "placed", number c.placed) ∷ (codes "delay", number c.delay) ∷ (codes "ice", number c.ice)
    ∷ (codes "ctot", number c.ctot) ∷ (codes "closure", number c.closure) ∷ (codes "spacing", number c.spacing) ∷ (codes "rate", number c.rate)
    ∷ (codes "now", number c.clock) ∷ (codes "blocked", number c.blocked) ∷ []

-- The lines.

abbrev pub next_lines : DayRecord → Plan → List Row → ℕ → List ℕ
next_lines d plan rows minutes = flat_map (λ s. object_line d.airport.day (start_up_members s)) (start_ups d plan rows minutes)

abbrev pub warning_lines : DayRecord → Plan → List Row → List RunwayRules → List ℕ
warning_lines d plan rows runways = flat_map (λ w. object_line d.airport.day (warning_members w)) (warnings d plan rows runways)

abbrev pub group_object : DayRecord → Plan → GroupBy → List Row → Option (List ℕ) → List ℕ
group_object d plan by rows g = object_line d.airport.day (costs_members (name_or_dash g) (costs_of d plan (rows_in by rows g)))

abbrev pub causes_lines : DayRecord → Plan → GroupBy → List Row → List ℕ
causes_lines d plan by rows =
    flat_map (group_object d plan by (on_stand rows)) (told_groups by (on_stand rows))
    ++ object_line d.airport.day (costs_members (codes "TOTAL") (costs_of d plan (on_stand rows)))
