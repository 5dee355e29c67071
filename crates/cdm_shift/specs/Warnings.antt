-- What is wrong, or about to be.
use Rattle.std.specs.Prelude.{ℕ, ◌+◌, ◌*◌, Bool, true, false, ◌&&◌, ◌||◌, max, min, nat_le, nat_lt, if◌then◌else◌, List, ◌++◌, filter, flat_map, length, map, Option, None, Some}
use Rattle.std.specs.List.{filter_map, list_any}
use Rattle.std.specs.Option.{option_and_then, option_map}
use Rattle.cdm_time.specs.declared.tolerance.Tolerance.{Tolerance}
use Rattle.cdm_flight.specs.Journal.{runway_row, values_of}
use Rattle.cdm_flight.specs.declared.update.Update.{Update}
use Rattle.cdm_flight.specs.declared.update.Update.TheVariants.{Clock}
use Rattle.cdm_flight.specs.declared.values.DayValues.{DayValues}
use Rattle.cdm_runway.specs.Room.{is_closed}
use Rattle.cdm_runway.specs.Rules.{RunwayRules}
use Rattle.cdm_sequence.specs.declared.plan.Plan.{Plan}
use Rattle.cdm_sequence.specs.declared.slot.Slot.{Slot}
use Rattle.cdm_plan.specs.Day.{DayRecord, rules_of}
use Rattle.cdm_row.specs.declared.row.Row.{Row}
use Rattle.cdm_row.specs.declared.row.RowStatus.{RowStatus}
use Rattle.cdm_row.specs.declared.row.RowStatus.TheVariants as status
use Rattle.cdm_view.specs.Causes.{same_cause}
use Rattle.cdm_view.specs.Load.{cap_of_cell, cells_of, flights_in_cell}
use Rattle.cdm_view.specs.Reasons.{slots_on}
use Rattle.cdm_view.specs.declared.cause.Cause.{Cause}
use Rattle.cdm_view.specs.declared.cause.Cause.TheVariants.{Now}
use Rattle.cdm_shift.specs.Held.{causes_named}
use Rattle.cdm_shift.specs.declared.warning.Warning.{Warning}
use Rattle.cdm_shift.specs.declared.warning.Warning.TheVariants.{Overdue, Missed, Blocked, Edge, Past, Ahead, Full, Shut}

-- the end of the window of a CTOT, which is not in it
abbrev pub window_end : Tolerance → ℕ → ℕ
window_end tolerance ctot = min 2880 (ctot + tolerance.after + 1)

-- off-block, and its take-off is more than 5 minutes before now
abbrev pub overdue_at : ℕ → Row → ℕ → Option Warning
overdue_at now row ttot = if nat_lt (ttot + 5) now then Some (Overdue row.flight ttot) else None

abbrev pub overdue : DayValues → Row → RowStatus → Option Warning
overdue values row status.OffBlock = option_and_then (overdue_at values.clock row) row.ttot
overdue values row _ = None

-- off-block with a CTOT, and the later of now and its take-off is after the window
abbrev pub missed_at : DayValues → Row → ℕ → ℕ → Option Warning
missed_at values row ctot ttot = if nat_le (window_end values.tolerance ctot) (max values.clock ttot) then Some (Missed row.flight ctot ttot) else None

abbrev pub missed : DayValues → Row → RowStatus → Option Warning
missed values row status.OffBlock = option_and_then (λ ctot. option_and_then (missed_at values row ctot) row.ttot) row.ctot
missed values row _ = None

-- blocked, though it has a TOBT or a CTOT
abbrev pub is_some : Option ℕ → Bool
is_some (Some m) = true
is_some None = false

abbrev pub blocked : Row → Option Warning
blocked row = if is_some row.tobt || is_some row.ctot then option_map (λ rule. Blocked row.flight rule row.ctot) row.rule else None

-- planned at one of the last 3 minutes of its window, and after its CTOT
abbrev pub edge_at : DayValues → Row → ℕ → ℕ → Option Warning
edge_at values row ctot ttot =
    if nat_lt ctot ttot && nat_le (window_end values.tolerance ctot) (ttot + 3) then Some (Edge row.flight ctot ttot) else None

abbrev pub edge : DayValues → Row → RowStatus → Option Warning
edge values row status.Planned = option_and_then (λ ctot. option_and_then (edge_at values row ctot) row.ttot) row.ctot
edge values row _ = None

-- planned, and nothing but the clock held it at a minute: it could have gone
abbrev pub past_at : Row → ℕ → ℕ → List Cause → Option Warning
past_at row tobt tsat causes = if list_any (same_cause Now) causes then Some (Past row.flight tobt tsat) else None

abbrev pub past : DayRecord → Plan → Row → RowStatus → Option Warning
past d plan row status.Planned =
    option_and_then (λ tobt. option_and_then (λ tsat. past_at row tobt tsat (causes_named d plan row.flight)) row.tsat) row.tobt
past d plan row _ = None

abbrev pub is_clock : Update → Bool
is_clock (Clock now) = true
is_clock _ = false

-- a CLOCK is among these accepted updates: before the first, now isn't known
abbrev pub has_clock : List Update → Bool
has_clock journal = list_any is_clock journal

-- a CLOCK was accepted, and the flight is said to have left its stand, or to have taken off, more than 2 minutes after now
abbrev pub ahead_at : Bool → ℕ → Row → ℕ → Option Warning
ahead_at clocked now row m = if clocked && nat_lt (now + 2) m then Some (Ahead row.flight m) else None

abbrev pub ahead : Bool → DayValues → Row → RowStatus → Option Warning
ahead clocked values row status.OffBlock = option_and_then (ahead_at clocked values.clock row) row.tsat
ahead clocked values row status.Airborne = option_and_then (ahead_at clocked values.clock row) row.ttot
ahead clocked values row _ = None

-- a cell that has more flights than it may, and isn't over
abbrev pub is_full : RunwayRules → List Slot → ℕ → ℕ → Bool
is_full rules slots now k = nat_lt (cap_of_cell rules k) (length (flights_in_cell rules slots k)) && nat_lt now (k * rules.cell + rules.cell)

abbrev pub full_cell : RunwayRules → List Slot → ℕ → Warning
full_cell rules slots k = Full rules.name (k * rules.cell) (length (flights_in_cell rules slots k)) (cap_of_cell rules k)

unfoldable pub full_cells : Plan → RunwayRules → List Warning
full_cells plan rules =
    let slots = slots_on plan rules.name in
    map (full_cell rules slots) (filter (is_full rules slots plan.clock) (cells_of rules))

-- off-block, and its runway is closed at the later of now and its take-off
abbrev pub shut_at : DayValues → Row → List ℕ → ℕ → RunwayRules → Option Warning
shut_at values row runway ttot rules = if is_closed rules (max values.clock ttot) then Some (Shut row.flight runway ttot) else None

abbrev pub rules_named : DayRecord → List ℕ → Option RunwayRules
rules_named d runway = option_map (rules_of d.airport d.journal) (runway_row d.airport runway)

abbrev pub shut : DayRecord → Row → RowStatus → Option Warning
shut d row status.OffBlock =
    option_and_then (λ runway. option_and_then (λ ttot. option_and_then (shut_at (values_of d.journal) row runway ttot) (rules_named d runway)) row.ttot) row.runway
shut d row _ = None

-- all warnings of a day with this plan, kind by kind, those of flights by name and those of cells by runway and minute
unfoldable pub warnings : DayRecord → Plan → List Row → List RunwayRules → List Warning
warnings d plan rows runways =
    let values = values_of d.journal in
    filter_map (λ row. overdue values row row.status) rows
    ++ filter_map (λ row. missed values row row.status) rows
    ++ filter_map blocked rows
    ++ filter_map (λ row. edge values row row.status) rows
    ++ filter_map (λ row. past d plan row row.status) rows
    ++ filter_map (λ row. ahead (has_clock d.journal) values row row.status) rows
    ++ flat_map (full_cells plan) runways
    ++ filter_map (λ row. shut d row row.status) rows
