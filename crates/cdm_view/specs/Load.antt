-- How full the runways of a day are, cell by cell.
use Rattle.std.specs.Prelude.{◌≡◌, ℕ, ◌*◌, ◌/◌, ◌==◌, ◌||◌, ◌&&◌, Bool, true, not, nat_le, nat_lt, List, [], ◌∷◌, ◌++◌, Contains, codes, count_by, filter, flat_map, length, Option, None, Some, if◌then◌else◌}
use Rattle.std.specs.Fmt.{decimal}
use Rattle.std.specs.List.{concat, list_any, range_with_len}
use Rattle.std.specs.Option.{option_and_then, option_map_or}
use Rattle.cdm_time.specs.declared.calendar.CalendarDate.{CalendarDate}
use Rattle.cdm_time.specs.Times.{stamp}
use Rattle.cdm_flight.specs.Accepted.{has_runway}
use Rattle.cdm_flight.specs.Journal.{AirportRows, runway_row}
use Rattle.cdm_flight.specs.Names.{same_name}
use Rattle.cdm_runway.specs.Room.{cap_at, is_closed}
use Rattle.cdm_runway.specs.Rules.{RunwayRules}
use Rattle.cdm_sequence.specs.declared.plan.Plan.{Plan}
use Rattle.cdm_sequence.specs.declared.slot.Slot.{Slot}
use Rattle.cdm_report.specs.Columns.{left_in, right_in}
use Rattle.cdm_report.specs.Report.{day_line, line_end}
use Rattle.cdm_plan.specs.Day.{DayRecord}
use Rattle.cdm_plan.specs.DayPlan.{AreByName}
use Rattle.cdm_view.specs.declared.fault.ViewFault.{ViewFault}
use Rattle.cdm_view.specs.declared.fault.ViewFault.TheVariants as fault
use Rattle.cdm_view.specs.Reasons.{slots_on}

-- the numbers of a runway's cells
abbrev pub cells_of : RunwayRules → List ℕ
cells_of rules = range_with_len 0 (2880 / rules.cell)

-- the flights of the slots that take off in a cell
abbrev pub flights_in_cell : RunwayRules → List Slot → ℕ → List Slot
flights_in_cell rules slots k = filter (λ s. s.ttot / rules.cell == k) slots

-- how many minutes of a cell are closed
abbrev pub closed_in_cell : RunwayRules → ℕ → ℕ
closed_in_cell rules k = count_by (is_closed rules) (range_with_len (k * rules.cell) rules.cell)

-- how many flights a cell takes
abbrev pub cap_of_cell : RunwayRules → ℕ → ℕ
cap_of_cell rules k = cap_at rules (k * rules.cell)

-- a cell tells something: a flight, a closed minute, or another cap than the usual one
unfoldable pub tells : RunwayRules → ℕ → List Slot → ℕ → Bool
tells rules usual slots k = nat_lt 0 (length (flights_in_cell rules slots k)) || nat_lt 0 (closed_in_cell rules k) || not (cap_of_cell rules k == usual)

-- of some numbers one up to k passes the test, and one from k on does
abbrev pub is_between : (ℕ → Bool) → List ℕ → ℕ → Bool
is_between test numbers k = list_any (λ j. nat_le j k && test j) numbers && list_any (λ j. nat_le k j && test j) numbers

-- the cells from the first that tells something to the last
unfoldable pub told_cells : RunwayRules → ℕ → List Slot → List ℕ
told_cells rules usual slots = filter (is_between (tells rules usual slots) (cells_of rules)) (cells_of rules)

-- the mark of a cell that has more flights than it may
abbrev pub over_mark : RunwayRules → List Slot → ℕ → List ℕ
over_mark rules slots k = if nat_lt (cap_of_cell rules k) (length (flights_in_cell rules slots k)) then codes "!" else codes " "

-- a cell's columns: its first minute, how many flights it has and may have, whether those are too many, and how many of its minutes
-- are closed
unfoldable pub cell_columns : CalendarDate → RunwayRules → List Slot → ℕ → List ℕ
cell_columns day rules slots k = concat (
    stamp day (k * rules.cell) ∷ codes " " ∷ right_in 2 (decimal (length (flights_in_cell rules slots k)))
    ∷ codes "/" ∷ left_in 2 (decimal (cap_of_cell rules k)) ∷ over_mark rules slots k ∷ codes "CLOSED " ∷ right_in 2 (decimal (closed_in_cell rules k)) ∷ [])

-- a cell's line: its columns, and the names of its flights
unfoldable pub cell_line : CalendarDate → RunwayRules → List Slot → ℕ → List ℕ
cell_line day rules slots k =
    cell_columns day rules slots k ++ flat_map (λ s. codes " " ++ s.name) (flights_in_cell rules slots k) ++ line_end

-- a runway's heading
unfoldable pub heading : RunwayRules → List ℕ
heading rules = concat (codes "RUNWAY " ∷ rules.name ∷ codes " CELL " ∷ decimal rules.cell ∷ line_end ∷ [])

-- the cap that the airport's row of a runway gives
abbrev pub usual_cap : AirportRows → List ℕ → ℕ
usual_cap g r = option_map_or (λ row. row.cap) (runway_row g r) 0

-- a runway's heading and cells
unfoldable pub runway_load : AirportRows → Plan → RunwayRules → List ℕ
runway_load g plan rules =
    let slots = slots_on plan rules.name in
    heading rules ++ flat_map (cell_line g.day rules slots) (told_cells rules (usual_cap g rules.name) slots)

-- the runway is the one asked, or all are
abbrev pub is_asked : Option (List ℕ) → RunwayRules → Bool
is_asked asked rules = option_map_or (λ name. same_name name rules.name) asked true

-- how full the runways asked are, of these
unfoldable pub load_text : AirportRows → Plan → Option (List ℕ) → List RunwayRules → List ℕ
load_text g plan asked runways = day_line g.day plan.clock ++ flat_map (runway_load g plan) (filter (is_asked asked) runways)

-- the runway asked, if it is none of the airport's
abbrev pub unknown_in : AirportRows → Option (List ℕ) → Option (List ℕ)
unknown_in g asked = option_and_then (λ name. if has_runway g name then None else Some name) asked

-- the runway asked is unknown, or there was no memory for its load
abbrev pub IsLoadFault : AirportRows → Option (List ℕ) → ViewFault → Type 0
IsLoadFault g asked (fault.NoRunway name) = unknown_in g asked ≡ Some name
IsLoadFault g asked (fault.NoFlight name) = ⊥
IsLoadFault g asked fault.Memory = unknown_in g asked ≡ None

-- how full the runways asked are, of the day's by name
abbrev pub IsLoad : DayRecord → Plan → Option (List ℕ) → List ℕ → Type 0
IsLoad day plan asked text = (runways : List RunwayRules) × AreByName day runways × (text ≡ load_text day.airport plan asked runways)

-- a flight is told in the line of the cell of its take-off, and in no other
pub record IsInOneLine (rules : RunwayRules) (usual : ℕ) (slots : List Slot) (flight : Slot) : Type 0 where
  pub told : Contains (told_cells rules usual slots) (flight.ttot / rules.cell)
  pub counted : Contains (flights_in_cell rules slots (flight.ttot / rules.cell)) flight
  pub once : (k : ℕ) → Contains (flights_in_cell rules slots k) flight → k ≡ flight.ttot / rules.cell
