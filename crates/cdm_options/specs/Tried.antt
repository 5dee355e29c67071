-- The records that are tried for a planned flight.
use Rattle.std.specs.Prelude.{ℕ, ◌+◌, ◌*◌, ◌<◌, Bool, true, false, not, ◌&&◌, min, nat_le, nat_lt, List, [], ◌∷◌, ◌++◌, filter, flat_map, map, take, Option, None, if◌then◌else◌}
use Rattle.std.specs.List.{list_any, range_with_len}
use Rattle.std.specs.Option.{option_and_then, option_map, option_map_or}
use Rattle.cdm_flight.specs.Authority.{may_make}
use Rattle.cdm_flight.specs.Journal.{runway_row}
use Rattle.cdm_flight.specs.Names.{same_name}
use Rattle.cdm_flight.specs.declared.flight.Flight.{Flight}
use Rattle.cdm_flight.specs.declared.role.Role.{Role}
use Rattle.cdm_flight.specs.declared.role.Role.TheVariants.{AirTrafficControl, NetworkManager}
use Rattle.cdm_flight.specs.declared.update.Update.{Update}
use Rattle.cdm_flight.specs.declared.update.Update.TheVariants.{Close, Ctot, Prio, Rate, Reopen, Rwy}
use Rattle.cdm_runway.specs.Rules.{RunwayRules}
use Rattle.cdm_sequence.specs.declared.plan.Plan.{Plan}
use Rattle.cdm_sequence.specs.declared.plan.RunwayPlan.{RunwayPlan}
use Rattle.cdm_plan.specs.Day.{DayRecord, rules_of}
use Rattle.cdm_view.specs.Load.{cap_of_cell, cells_of}
use Rattle.cdm_view.specs.declared.reason.Reason.{Reason}
use Rattle.cdm_view.specs.declared.reason.Reason.TheVariants as reason
use Rattle.cdm_view.specs.declared.runs.Run.{Run}

-- PRIO: each smaller priority number, from 0
abbrev pub priority_tried : Flight → ℕ → Update
priority_tried f n = Prio f.name n

abbrev pub priorities_tried : Flight → List Update
priorities_tried f = map (priority_tried f) (range_with_len 0 f.priority)

-- RWY: each other runway, by name, as a plan has them
abbrev pub is_own : Flight → List ℕ → Bool
is_own f r = option_map_or (λ own. same_name own r) f.runway false

abbrev pub runway_tried : Flight → RunwayPlan → List Update
runway_tried f p = if is_own f p.runway then [] else Rwy f.name p.runway ∷ []

abbrev pub runways_tried : Flight → Plan → List Update
runways_tried f plan = flat_map (runway_tried f) plan.runways

-- CTOT: none any more, if it has one
abbrev pub ctot_tried : Flight → Update
ctot_tried f = Ctot f.name None

abbrev pub ctots_tried : Flight → List Update
ctots_tried f = option_map_or (λ c. ctot_tried f ∷ []) f.ctot []

-- OPEN: each of the first 8 runs of minutes at which the runway is closed. A window ends at the horizon's last minute at the latest,
-- since the times of a record that is written are minutes of the horizon.
abbrev pub is_closure : Reason → Bool
is_closure reason.Closure = true
is_closure _ = false

abbrev pub opened : List ℕ → Run → List Update
opened r run = if is_closure run.reason && nat_lt run.first 2879 then Reopen r run.first (min (run.last + 1) 2879) ∷ [] else []

abbrev pub openings_tried : List ℕ → List Run → List Update
openings_tried r runs = take 8 (flat_map (opened r) runs)

-- RATE: one more flight in each of the first 16 cells that are full at a minute, and that may take one more
abbrev pub is_rate : Reason → Bool
is_rate (reason.Rate cap names) = true
is_rate _ = false

-- the run has a minute from one up to another, whose cell is full
abbrev pub meets_cell : ℕ → ℕ → Run → Bool
meets_cell from to run = is_rate run.reason && nat_lt run.first to && nat_le from run.last

abbrev pub is_full : List Run → ℕ → ℕ → Bool
is_full runs from to = list_any (meets_cell from to) runs

-- the cell is full, takes fewer than 60 flights, and ends before the horizon does
abbrev pub may_rise : RunwayRules → List Run → ℕ → Bool
may_rise rules runs k =
    nat_le (k * rules.cell + rules.cell) 2879 && nat_lt (cap_of_cell rules k) 60 && is_full runs (k * rules.cell) (k * rules.cell + rules.cell)

abbrev pub raised : RunwayRules → List Run → ℕ → List Update
raised rules runs k =
    if may_rise rules runs k then Rate rules.name (k * rules.cell) (k * rules.cell + rules.cell) (cap_of_cell rules k + 1) ∷ [] else []

abbrev pub rates_tried : RunwayRules → List Run → List Update
rates_tried rules runs = take 16 (flat_map (raised rules runs) (cells_of rules))

-- what is tried on a runway
abbrev pub on_runway : List Run → RunwayRules → List Update
on_runway runs rules = openings_tried rules.name runs ++ rates_tried rules runs

-- and on the flight's, if it has one
abbrev pub own_runway : DayRecord → Flight → Option RunwayRules
own_runway d f = option_and_then (λ r. option_map (rules_of d.airport d.journal) (runway_row d.airport r)) f.runway

abbrev pub on_own : DayRecord → Flight → List Run → List Update
on_own d f runs = option_map_or (on_runway runs) (own_runway d f) []

-- all that is tried for a flight that waits for these runs of minutes
unfoldable pub all_tried : DayRecord → Plan → Flight → List Run → List Update
all_tried d plan f runs = take 64 (priorities_tried f ++ runways_tried f plan ++ ctots_tried f ++ on_own d f runs)

-- where the window of a record ends, if it has one
abbrev pub ends_at : Update → ℕ
ends_at (Rate r from to cap) = to
ends_at (Close r from to) = to
ends_at (Reopen r from to) = to
ends_at _ = 0

-- it ends before the horizon does
abbrev pub EndsInTime : Update → Type 0
EndsInTime u = ends_at u < 2880

-- Who sends it.

-- the role that may send what is tried, which no other may
abbrev pub sender_of : Update → Role
sender_of (Ctot f c) = NetworkManager
sender_of _ = AirTrafficControl

-- the role that is asked for, if one is, may send it
abbrev pub is_allowed : Option Role → Update → Bool
is_allowed role u = option_map_or (λ r. may_make r u) role true

abbrev pub tried_by : Option Role → List Update → List Update
tried_by role updates = filter (is_allowed role) updates
