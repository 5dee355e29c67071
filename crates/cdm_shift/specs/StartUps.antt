-- The start-ups ahead.
use Rattle.std.specs.Prelude.{ℕ, ◌+◌, ◌-◌, ◌==◌, Bool, true, false, ◌&&◌, min, nat_lt, List, IsPermutation, IsSorted, filter, flat_map, length, map, slice_get, Option, unwrap_or}
use Rattle.std.specs.List.{range_with_len}
use Rattle.std.specs.Option.{option_map_or}
use Rattle.std.specs.Ordering.{nat_cmp, ordering_then}
use Rattle.std.specs.declared.cmp.Ordering.{Ordering}
use Rattle.cdm_flight.specs.Names.{name_cmp}
use Rattle.cdm_sequence.specs.declared.plan.Plan.{Plan}
use Rattle.cdm_plan.specs.Day.{DayRecord}
use Rattle.cdm_row.specs.declared.row.Row.{Row}
use Rattle.cdm_row.specs.declared.row.RowStatus.{RowStatus}
use Rattle.cdm_row.specs.declared.row.RowStatus.TheVariants as status
use Rattle.cdm_view.specs.declared.cause.Cause.{Cause}
use Rattle.cdm_shift.specs.Held.{causes_named}
use Rattle.cdm_shift.specs.declared.start_ups.StartUp.{StartUp}

-- on its stand, with a slot
abbrev pub is_planned : RowStatus → Bool
is_planned status.Planned = true
is_planned _ = false

-- the flight starts up at the minute
abbrev pub starts_at : ℕ → Row → Bool
starts_at m row = is_planned row.status && option_map_or (λ tsat. tsat == m) row.tsat false

-- the Rows of the flights that start up before a minute, by TSAT, and those of one minute as they stand
unfoldable pub starting : List Row → ℕ → List Row
starting rows end = flat_map (λ m. filter (starts_at m) rows) (range_with_len 0 end)

-- what held a flight last
abbrev pub last_of : List Cause → Option Cause
last_of causes = slice_get causes (length causes - 1)

-- the flight starts up before the minute
abbrev pub starts_before : ℕ → Row → Bool
starts_before end row = is_planned row.status && option_map_or (λ tsat. nat_lt tsat end) row.tsat false

-- by TSAT, and then by name
abbrev pub start_cmp : Row → Row → Ordering
start_cmp a b = ordering_then (nat_cmp (unwrap_or a.tsat 0) (unwrap_or b.tsat 0)) (name_cmp a.flight b.flight)

-- the same list in the words of the field: exactly the Rows of the flights that start up before the minute, by TSAT and then by name
pub record AreStarting (rows : List Row) (end : ℕ) (found : List Row) : Type 0 where
  pub those : IsPermutation (filter (starts_before end) rows) found
  pub in_order : IsSorted start_cmp found

-- a start-up, and what held it in the last minute before its take-off, if it waited
abbrev pub start_up : DayRecord → Plan → Row → StartUp
start_up d plan row = record { row = row; cause = last_of (causes_named d plan row.flight) }

-- the start-ups of the next minutes, by TSAT and name
abbrev pub start_ups : DayRecord → Plan → List Row → ℕ → List StartUp
start_ups d plan rows minutes = map (start_up d plan) (starting rows (min 2880 (plan.clock + minutes)))
