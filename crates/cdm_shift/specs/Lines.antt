-- The texts that a shift is told, line by line.
use Rattle.std.specs.Prelude.{ℕ, List, [], ◌∷◌, ◌++◌, codes, flat_map, length, Option, Some, unwrap_or}
use Rattle.std.specs.Fmt.{decimal}
use Rattle.std.specs.List.{concat}
use Rattle.std.specs.Option.{option_map_or}
use Rattle.cdm_time.specs.declared.calendar.CalendarDate.{CalendarDate}
use Rattle.cdm_runway.specs.Rules.{RunwayRules}
use Rattle.cdm_sequence.specs.Words.{rule_text}
use Rattle.cdm_sequence.specs.declared.plan.Plan.{Plan}
use Rattle.cdm_plan.specs.Day.{DayRecord}
use Rattle.cdm_report.specs.Columns.{left_in, right_in, time_column}
use Rattle.cdm_report.specs.Report.{day_line, line_end}
use Rattle.cdm_row.specs.declared.row.Row.{Row}
use Rattle.cdm_view.specs.Why.{name_or_dash}
use Rattle.cdm_view.specs.declared.cause.Cause.{Cause}
use Rattle.cdm_view.specs.declared.cause.Cause.TheVariants as cause
use Rattle.cdm_shift.specs.Costs.{costs_of, on_stand, rows_in, told_groups}
use Rattle.cdm_shift.specs.StartUps.{start_ups}
use Rattle.cdm_shift.specs.Warnings.{warnings}
use Rattle.cdm_shift.specs.declared.costs.Costs.{Costs}
use Rattle.cdm_shift.specs.declared.question.GroupBy.{GroupBy}
use Rattle.cdm_shift.specs.declared.start_ups.StartUp.{StartUp}
use Rattle.cdm_shift.specs.declared.warning.Warning.{Warning}
use Rattle.cdm_shift.specs.declared.warning.Warning.TheVariants.{Overdue, Missed, Blocked, Edge, Past, Ahead, Full, Shut}

-- the word of a cause
abbrev pub cause_word : Cause → List ℕ
cause_word cause.Ice = codes "ICE"
cause_word cause.Ctot = codes "CTOT"
cause_word cause.Closure = codes "CLOSURE"
cause_word cause.Spacing = codes "SPACING"
cause_word cause.Rate = codes "RATE"
cause_word cause.Now = codes "NOW"

-- and a dash where there is none
abbrev pub cause_or_dash : Option Cause → List ℕ
cause_or_dash c = option_map_or cause_word c (codes "-")

-- Start-ups.

-- who starts up, when and where: TSAT, flight, runway and stand
unfoldable pub place_told : CalendarDate → Row → List ℕ
place_told day row = concat (
    time_column day row.tsat ∷ codes " " ∷ left_in 7 row.flight ∷ codes " " ∷ left_in 3 (name_or_dash row.runway) ∷ codes " "
    ∷ left_in 5 (name_or_dash row.stand) ∷ [])

-- its other times: TOBT, CTOT, TTOT, delay, and what held it last
unfoldable pub times_told : CalendarDate → Row → Option Cause → List ℕ
times_told day row cause = concat (
    codes " " ∷ time_column day row.tobt ∷ codes " " ∷ time_column day row.ctot ∷ codes " " ∷ time_column day row.ttot ∷ codes " "
    ∷ right_in 4 (decimal (unwrap_or row.delay 0)) ∷ codes " " ∷ cause_or_dash cause ∷ line_end ∷ [])

-- a start-up
abbrev pub start_up_line : CalendarDate → StartUp → List ℕ
start_up_line day s = place_told day s.row ++ times_told day s.row s.cause

unfoldable pub next_text : DayRecord → Plan → List Row → ℕ → List ℕ
next_text d plan rows minutes = day_line d.airport.day plan.clock ++ flat_map (start_up_line d.airport.day) (start_ups d plan rows minutes)

-- Warnings.

-- a minute behind its title
abbrev pub at : CalendarDate → List ℕ → ℕ → List ℕ
at day title m = concat (codes " " ∷ title ∷ codes " " ∷ time_column day (Some m) ∷ [])

unfoldable pub warning_line : CalendarDate → Warning → List ℕ
warning_line day (Overdue name ttot) = concat (codes "OVERDUE " ∷ name ∷ at day (codes "TTOT") ttot ∷ line_end ∷ [])
warning_line day (Missed name ctot ttot) = concat (codes "MISSED " ∷ name ∷ at day (codes "CTOT") ctot ∷ at day (codes "TTOT") ttot ∷ line_end ∷ [])
warning_line day (Blocked name rule ctot) = concat (codes "BLOCKED " ∷ name ∷ codes " " ∷ rule_text rule ∷ codes " CTOT " ∷ time_column day ctot ∷ line_end ∷ [])
warning_line day (Edge name ctot ttot) = concat (codes "EDGE " ∷ name ∷ at day (codes "CTOT") ctot ∷ at day (codes "TTOT") ttot ∷ line_end ∷ [])
warning_line day (Past name tobt tsat) = concat (codes "PAST " ∷ name ∷ at day (codes "TOBT") tobt ∷ at day (codes "TSAT") tsat ∷ line_end ∷ [])
warning_line day (Ahead name m) = concat (codes "AHEAD " ∷ name ∷ codes " " ∷ time_column day (Some m) ∷ line_end ∷ [])
warning_line day (Full runway m placed cap) =
    concat (codes "FULL " ∷ runway ∷ codes " " ∷ time_column day (Some m) ∷ codes " " ∷ decimal placed ∷ codes "/" ∷ decimal cap ∷ line_end ∷ [])
warning_line day (Shut name runway ttot) = concat (codes "SHUT " ∷ name ∷ codes " " ∷ runway ∷ at day (codes "TTOT") ttot ∷ line_end ∷ [])

-- how many there are
unfoldable pub count_line : ℕ → List ℕ
count_line count = concat (codes "WARNINGS " ∷ decimal count ∷ line_end ∷ [])

unfoldable pub warnings_text : DayRecord → Plan → List Row → List RunwayRules → List ℕ
warnings_text d plan rows runways =
    let found = warnings d plan rows runways in
    day_line d.airport.day plan.clock ++ flat_map (warning_line d.airport.day) found ++ count_line (length found)

-- Costs.

abbrev pub costs_title : List ℕ
costs_title = codes "GROUP    PLACED   DELAY     ICE    CTOT CLOSURE SPACING    RATE     NOW BLOCKED"

-- a number of the line
abbrev pub number_in : ℕ → List ℕ
number_in n = codes " " ++ right_in 7 (decimal n)

-- the line of a group
unfoldable pub costs_line : List ℕ → Costs → List ℕ
costs_line name c = concat (
    left_in 7 name ∷ number_in c.placed ∷ number_in c.delay ∷ number_in c.ice ∷ number_in c.ctot ∷ number_in c.closure ∷ number_in c.spacing
    ∷ number_in c.rate ∷ number_in c.clock ∷ number_in c.blocked ∷ line_end ∷ [])

abbrev pub group_line : DayRecord → Plan → GroupBy → List Row → Option (List ℕ) → List ℕ
group_line d plan by rows g = costs_line (name_or_dash g) (costs_of d plan (rows_in by rows g))

-- the title, a line for each group, and one for all
unfoldable pub causes_text : DayRecord → Plan → GroupBy → List Row → List ℕ
causes_text d plan by rows =
    costs_title ++ line_end ++ flat_map (group_line d plan by (on_stand rows)) (told_groups by (on_stand rows))
    ++ costs_line (codes "TOTAL") (costs_of d plan (on_stand rows))
