-- A day and its scenarios side by side.
use Rattle.std.specs.Prelude.{◌≡◌, ℕ, ◌+◌, Bool, true, false, List, [], ◌∷◌, ◌++◌, IsPermutation, IsSorted, codes, flat_map, length, map, Option, None, Some, Result, Ok, Err, unwrap_or}
use Rattle.std.specs.declared.cmp.Ordering.{Ordering}
use Rattle.std.specs.Fmt.{decimal}
use Rattle.std.specs.List.{AllZip, concat, find, join_with_byte}
use Rattle.std.specs.Option.{option_map_or}
use Rattle.std.specs.Ordering.{bool_cmp, nat_cmp, ordering_then}
use Rattle.cdm_time.specs.declared.calendar.CalendarDate.{CalendarDate}
use Rattle.cdm_flight.specs.Names.{same_name}
use Rattle.cdm_flight.specs.declared.update.Update.{Update}
use Rattle.cdm_flight.specs.Words.{text_of}
use Rattle.cdm_flight.specs.declared.word.RefusalWord.{RefusalWord}
use Rattle.cdm_flight.specs.declared.word.RefusalWord.TheVariants.{Range}
use Rattle.cdm_sequence.specs.declared.plan.Plan.{Plan}
use Rattle.cdm_report.specs.Columns.{left_in, right_in}
use Rattle.cdm_report.specs.Counts.{counts_of}
use Rattle.cdm_report.specs.Report.{line_end}
use Rattle.cdm_report.specs.declared.counts.Counts.{Counts}
use Rattle.cdm_plan.specs.Day.{DayRecord}
use Rattle.cdm_plan.specs.DayPlan.{IsDayPlan}
use Rattle.cdm_view.specs.Standings.{AreStandings, IsChangedTo, flight_name, standing_line}
use Rattle.cdm_view.specs.declared.standing.Standing.{Standing}
use Rattle.cdm_scenario.specs.Outcome.{IsOutcome}
use Rattle.cdm_scenario.specs.Overlay.{with_updates}
use Rattle.cdm_scenario.specs.Scenarios.{ScenarioRecord}
use Rattle.cdm_scenario.specs.declared.outcome.Outcome.TheVariants.{Planned, Refused}
use Rattle.cdm_csv.specs.Rows.{csv_text}
use Rattle.cdm_table.specs.Moved.{TryRecord, as_it_is, tried_updates}
use Rattle.cdm_table.specs.declared.line.Line.{Line}
use Rattle.cdm_table.specs.declared.line.Summary.{Summary}
use Rattle.cdm_table.specs.declared.line.Summary.TheVariants as summary

-- What comes of updates.

-- the indicators of the plan with all updates, and the standings that differ from those of the day; or the number of the
-- first update that is refused, and its word
abbrev pub IsChanged : DayRecord → List Update → Result (Counts × List Standing) (ℕ × RefusalWord) → Type 0
IsChanged d us (Ok (counts, changed)) = (plan : Plan) × IsOutcome d us (Planned plan counts) × IsChangedTo d (with_updates d us) changed
IsChanged d us (Err (number, word)) = IsOutcome d us (Refused number word)

-- in numbers: how many standings differ
abbrev pub summary_of : Result (Counts × List Standing) (ℕ × RefusalWord) → Summary
summary_of (Ok (counts, changed)) = summary.Planned counts (length changed)
summary_of (Err (number, word)) = summary.Refused number word

abbrev pub IsSummary : DayRecord → List Update → Summary → Type 0
IsSummary d us is = (by : Result (Counts × List Standing) (ℕ × RefusalWord)) × IsChanged d us by × (is ≡ summary_of by)

-- of a try: RANGE refuses a time that leaves the horizon
abbrev pub IsSummaryBy : DayRecord → Result (List Update) ℕ → Summary → Type 0
IsSummaryBy d (Ok us) is = IsSummary d us is
IsSummaryBy d (Err number) is = is ≡ summary.Refused number Range

abbrev pub IsTried : DayRecord → TryRecord → Summary → Type 0
IsTried d t is = IsSummaryBy d (tried_updates t) is

-- Lines and their order.

-- the lines of tries, by their places
unfoldable pub lines_from : ℕ → List TryRecord → List Summary → List Line
lines_from place (t ∷ tries) (is ∷ summaries) =
    record { place = place; name = Some t.scenario.name; at = t.at; summary = is } ∷ lines_from (place + 1) tries summaries
lines_from place _ _ = []

-- the day's own line, and those of the tries
abbrev pub all_lines : Counts → List TryRecord → List Summary → List Line
all_lines counts tries summaries =
    record { place = 0; name = None; at = None; summary = summary.Planned counts 0 } ∷ lines_from 1 tries summaries

abbrev pub is_refused : Summary → Bool
is_refused (summary.Planned counts moved) = false
is_refused (summary.Refused number word) = true

abbrev pub blocked_in : Summary → ℕ
blocked_in (summary.Planned counts moved) = counts.blocked
blocked_in (summary.Refused number word) = 0

abbrev pub delay_in : Summary → ℕ
delay_in (summary.Planned counts moved) = counts.delay
delay_in (summary.Refused number word) = 0

-- those that are refused come last; else fewer blocked flights come first, then less delay; then the place decides
abbrev pub line_cmp : Line → Line → Ordering
line_cmp a b =
    ordering_then (ordering_then (ordering_then
    (bool_cmp (is_refused a.summary) (is_refused b.summary))
    (nat_cmp (blocked_in a.summary) (blocked_in b.summary)))
    (nat_cmp (delay_in a.summary) (delay_in b.summary)))
    (nat_cmp a.place b.place)

pub record IsRanking (lines ranked : List Line) : Type 0 where
  pub all : IsPermutation lines ranked
  pub best_first : IsSorted line_cmp ranked

-- Texts.

abbrev pub heading : List ℕ
heading = codes "SCENARIO         PLACED  DELAY   MAX  LATE BLOCKED  MOVED" ++ line_end

-- the columns of a plan, or the first refusal
unfoldable pub summary_text : Summary → List ℕ
summary_text (summary.Planned c moved) = join_with_byte 32 (
    right_in 6 (decimal c.placed) ∷ right_in 6 (decimal c.delay) ∷ right_in 5 (decimal c.greatest) ∷ right_in 5 (decimal c.late)
    ∷ right_in 7 (decimal c.blocked) ∷ right_in 6 (decimal moved) ∷ [])
summary_text (summary.Refused number word) = concat (codes "REFUSED " ∷ decimal number ∷ codes " " ∷ text_of word ∷ [])

-- the name of a scenario, a hyphen for the day itself, and what comes of it
unfoldable pub line_text : Line → List ℕ
line_text line = concat (left_in 16 (unwrap_or line.name (codes "-")) ∷ codes " " ∷ summary_text line.summary ∷ line_end ∷ [])

-- a standing after a mark
abbrev pub marked_line : CalendarDate → List ℕ → Standing → List ℕ
marked_line day mark s = concat (mark ∷ standing_line day s ∷ line_end ∷ [])

-- a flight's standing in the day, if it has one, and the one that it gets
unfoldable pub change_lines : CalendarDate → List Standing → Standing → List ℕ
change_lines day before s =
    option_map_or (marked_line day (codes "- ")) (find (λ t. same_name (flight_name t) (flight_name s)) before) []
    ++ marked_line day (codes "+ ") s

-- what is told of the day with all updates of a scenario: each change
abbrev pub AreTold : DayRecord → List Standing → DayRecord → List ℕ → Type 0
AreTold d before next text =
    (changed : List Standing) × IsChangedTo d next changed × (text ≡ flat_map (change_lines d.airport.day before) changed)

-- nothing where no scenario is asked for
abbrev pub IsToldIf : DayRecord → List Standing → Option DayRecord → List ℕ → Type 0
IsToldIf d before None text = text ≡ []
IsToldIf d before (Some next) text = AreTold d before next text

-- the lines of the day, on which flights stand so, and of tries over it, the best first
pub record AreRanked (d : DayRecord) (tries : List TryRecord) (before : List Standing) (ranked : List Line) : Type 0 where
  pub plan : Plan
  pub of_day : IsDayPlan d plan
  pub stand : AreStandings d plan before
  pub summaries : List Summary
  pub of_tries : AllZip (IsTried d) tries summaries
  pub ranking : IsRanking (all_lines (counts_of plan) tries summaries) ranked

-- a line for the day and one for each scenario, the best first, and then what is told of the day by the one asked for
pub record IsComparison (d : DayRecord) (scenarios : List ScenarioRecord) (asked : Option DayRecord) (text : List ℕ) : Type 0 where
  pub before : List Standing
  pub ranked : List Line
  pub lines : AreRanked d (map as_it_is scenarios) before ranked
  pub told : List ℕ
  pub of_asked : IsToldIf d before asked told
  pub bytes : text ≡ heading ++ flat_map line_text ranked ++ told

-- As CSV.

-- the columns
unfoldable pub line_columns : List (List ℕ)
line_columns =
    codes "scenario" ∷ codes "placed" ∷ codes "delay" ∷ codes "max" ∷ codes "late" ∷ codes "blocked" ∷ codes "moved" ∷ []

-- the numbers of a plan
unfoldable pub count_fields : Counts → ℕ → List (List ℕ)
count_fields c moved = decimal c.placed ∷ decimal c.delay ∷ decimal c.greatest ∷ decimal c.late ∷ decimal c.blocked ∷ decimal moved ∷ []

-- a scenario that is refused has none
unfoldable pub no_counts : List (List ℕ)
no_counts = [] ∷ [] ∷ [] ∷ [] ∷ [] ∷ [] ∷ []

abbrev pub summary_fields : Summary → List (List ℕ)
summary_fields (summary.Planned counts moved) = count_fields counts moved
summary_fields (summary.Refused number word) = no_counts

-- a line under its scenario's name, or under none for the day itself
abbrev pub line_fields : Line → List (List ℕ)
line_fields line = unwrap_or line.name [] ∷ summary_fields line.summary

-- the names of the columns, and then the lines, the best first
pub record IsComparisonCsv (d : DayRecord) (scenarios : List ScenarioRecord) (text : List ℕ) : Type 0 where
  pub before : List Standing
  pub ranked : List Line
  pub lines : AreRanked d (map as_it_is scenarios) before ranked
  pub bytes : text ≡ csv_text (line_columns ∷ map line_fields ranked)
