-- Plans and comparisons of a day and its scenarios are lines.
use Rattle.std.{proofs.Common.{ℕ, List, [], ◌∷◌, ◌++◌, arith, refl, Option, None, Some, Result, Ok, Err, codes}, specs.Prelude.flat_map}
use Rattle.std.specs.List.{concat}
use Rattle.json.specs.Json.{string}
use Rattle.cdm_time.specs.{Times.time_text, declared.calendar.CalendarDate.CalendarDate}
use Rattle.cdm_flight.specs.{Words.text_of, declared.word.RefusalWord.RefusalWord}
use Rattle.cdm_report.specs.declared.counts.Counts.{Counts}
use Rattle.cdm_plan.specs.Day.{DayRecord}
use Rattle.cdm_view.specs.{Standings.flight_name, declared.standing.Standing.Standing}
use Rattle.cdm_row.specs.{Changed.row_named, Json.{count_json, object_of, row_json}, declared.row.Row.Row}
use Rattle.cdm_scenario.specs.{Overlay.with_updates, Scenarios.ScenarioRecord, declared.outcome.Outcome.Outcome}
use Rattle.cdm_scenario.specs.declared.outcome.Outcome.TheVariants.{Planned, Refused}
use Rattle.cdm_json.specs.Plans.{count_members}
use Rattle.cdm_json.specs.declared.plan.PlanOf.TheVariants as of
use Rattle.cdm_table.specs.ComparisonJson.{AreChangeLines, AreChangeLinesIf, IsComparisonJson, change_line, change_members, name_members}
use Rattle.cdm_table.specs.{ComparisonJson.{summary_line, summary_members}, Plans.{IsLineBy, IsPlans, IsScenarioLine, refusal_members}}
use Rattle.cdm_table.specs.Sweep.{IsSweepJson, at_members, sweep_json_line}
use Rattle.cdm_table.specs.declared.line.{Line.Line, Summary.Summary}
use Rattle.cdm_table.specs.declared.line.Summary.TheVariants as summary
use Rattle.cdm_lines.{specs.Lines.{AreLines, FitsLine, IsLine}, proofs.AnswerLemmas.{is_plan_line, small_counts, small_row}}
use Rattle.cdm_lines.proofs.Texts.{fits, lines-append, lines-concat, lines-flat_map, lines-zip, lines_same, no_lines, one_line}
use Rattle.cdm_lines.proofs.Values.{AreSmall, Small, small-append, small_decimal, small_more, small_object, small_or_null, small_string}

-- A scenario that is refused.

small_refusal : (number : ℕ) (word : RefusalWord) → AreSmall 3 (refusal_members number word)
small_refusal number word = (small_decimal 3 number, (small_string 3 (text_of word), tt))

pub refusal_fits : (name : List ℕ) (number : ℕ) (word : RefusalWord) → FitsLine (object_of ((codes "scenario", string name) ∷ refusal_members number word))
refusal_fits name number word =
    let members = (codes "scenario", string name) ∷ refusal_members number word in
    fits (object_of members) (small_object 3 members (small_string 3 name, small_refusal number word))

-- A line of a comparison.

small_name : (name : Option (List ℕ)) → AreSmall 3 (name_members name)
small_name name = (small_or_null 3 string (small_string 3) name, tt)

small_summary : (s : Summary) → AreSmall 3 (summary_members s)
small_summary (summary.Planned counts moved) = small-append 3 (count_members counts) ((codes "moved", count_json moved) ∷ []) (small_counts 3 counts) (small_decimal 3 moved, tt)
small_summary (summary.Refused number word) = small_refusal number word

pub summary_fits : (name : Option (List ℕ)) (s : Summary) → FitsLine (object_of (name_members name ++ summary_members s))
summary_fits name s =
    let members = name_members name ++ summary_members s in
    fits (object_of members) (small_object 3 members (small-append 3 (name_members name) (summary_members s) (small_name name) (small_summary s)))

-- A line of a comparison at steps.

small_at : (day : CalendarDate) (at : Option ℕ) → AreSmall 3 (at_members day at)
small_at day at = (small_or_null 3 (λ minute. string (time_text day minute)) (λ minute. small_string 3 (time_text day minute)) at, tt)

pub step_fits : (day : CalendarDate) (name : Option (List ℕ)) (at : Option ℕ) (s : Summary)
    → FitsLine (object_of (name_members name ++ (at_members day at ++ summary_members s)))
step_fits day name at s =
    let members = name_members name ++ (at_members day at ++ summary_members s) in
    fits (object_of members)
    (small_object 3 members
    (small-append 3 (name_members name) (at_members day at ++ summary_members s) (small_name name)
    (small-append 3 (at_members day at) (summary_members s) (small_at day at) (small_summary s))))

-- A change.
pub change_fits : (day : CalendarDate) (name : List ℕ) (before after : Option Row) → FitsLine (object_of (change_members day name before after))
change_fits day name before after =
    let row : (r : Row) → Small 3 (row_json day r) = λ r. small_more 1 3 (row_json day r) (omega arith) (small_row day r) in
    let members = change_members day name before after in
    fits (object_of members) (small_object 3 members (small_string 3 name, (small_or_null 3 (row_json day) row before, (small_or_null 3 (row_json day) row after, tt))))

-- The texts.

is_line_by : (d : DayRecord) (s : ScenarioRecord) (o : Outcome) (text : List ℕ) → IsLineBy d s o text → IsLine text
is_line_by d s (Planned plan counts) text is = is_plan_line (with_updates d s.updates) (of.Scenario s.name) plan [] text is
is_line_by d s (Refused number word) text is = (_, refusal_fits s.name number word, is)

pub are_plans : (d : DayRecord) (refused : List (ℕ × RefusalWord)) (scenarios : List ScenarioRecord) (text : List ℕ) → IsPlans d refused scenarios text → AreLines text
are_plans d refused scenarios text is =
    lines_same text _ is.bytes
    (lines-append is.own (concat is.answers) (one_line is.own (is_plan_line d of.Day is.plan refused is.own is.line))
    (lines-concat is.answers (lines-zip (IsScenarioLine d) (λ s t line. one_line t (is_line_by d s line.0 t line.2)) scenarios is.answers is.of_scenarios)))

are_changes : (d next : DayRecord) (text : List ℕ) → AreChangeLines d next text → AreLines text
are_changes d next text (changed, differ, before, had, after, has, is) =
    lines_same text _ is
    (lines-flat_map (change_line d.airport.day before after)
    (λ one. one_line _ (_, change_fits d.airport.day (flight_name one) (row_named before (flight_name one)) (row_named after (flight_name one)), refl)) changed)

are_changes_if : (d : DayRecord) (asked : Option DayRecord) (text : List ℕ) → AreChangeLinesIf d asked text → AreLines text
are_changes_if d None text is = lines_same text [] is no_lines
are_changes_if d (Some next) text are = are_changes d next text are

is_summary : (line : Line) → AreLines (summary_line line)
is_summary line = one_line _ (_, summary_fits line.name line.summary, refl)

pub is_comparison : (d : DayRecord) (scenarios : List ScenarioRecord) (asked : Option DayRecord) (text : List ℕ) → IsComparisonJson d scenarios asked text → AreLines text
is_comparison d scenarios asked text is =
    lines_same text _ is.bytes
    (lines-append (flat_map summary_line is.ranked) is.told (lines-flat_map summary_line is_summary is.ranked) (are_changes_if d asked is.told is.of_asked))

is_step : (day : CalendarDate) (line : Line) → AreLines (sweep_json_line day line)
is_step day line = one_line _ (_, step_fits day line.name line.at line.summary, refl)

pub is_sweep : (d : DayRecord) (scenarios : List ScenarioRecord) (minutes : List ℕ) (text : List ℕ) → IsSweepJson d scenarios minutes text → AreLines text
is_sweep d scenarios minutes text is =
    lines_same text _ is.bytes (lines-flat_map (sweep_json_line d.airport.day) (is_step d.airport.day) is.ranked)
