-- What a shift is told is lines.
use Rattle.std.{proofs.Common.{ℕ, List, codes, refl}, specs.Prelude.flat_map}
use Rattle.cdm_time.specs.declared.calendar.CalendarDate.{CalendarDate}
use Rattle.cdm_sequence.specs.declared.plan.Plan.{Plan}
use Rattle.cdm_plan.specs.Day.{DayRecord}
use Rattle.cdm_kinds.specs.declared.format.Format.TheVariants.{Json as AsJson}
use Rattle.cdm_row.specs.Columns.{Value}
use Rattle.cdm_shift.specs.{Answers.IsShiftText, Costs.{costs_of, on_stand, told_groups}}
use Rattle.cdm_shift.specs.{Objects.{costs_members, group_object, object_line, start_up_members, warning_members}, StartUps.start_ups}
use Rattle.cdm_shift.specs.{Warnings.warnings, declared.question.ShiftQuestion.ShiftQuestion}
use Rattle.cdm_shift.specs.declared.question.ShiftQuestion.TheVariants.{Next, Warnings, Causes}
use Rattle.cdm_lines.{specs.Lines.AreLines, proofs.AnswerLemmas.values_fit}
use Rattle.cdm_lines.proofs.Texts.{lines-append, lines-flat_map, lines_same, one_line}

is_object : (day : CalendarDate) (members : List (List ℕ × Value)) → AreLines (object_line day members)
is_object day members = one_line (object_line day members) (_, values_fit day members, refl)

pub are_shift_answers : (question : ShiftQuestion) (d : DayRecord) (plan : Plan) (text : List ℕ) → IsShiftText AsJson question d plan text → AreLines text
are_shift_answers (Next minutes) d plan text (rows, each, is) =
    lines_same text _ is
    (lines-flat_map (λ s. object_line d.airport.day (start_up_members s)) (λ s. is_object d.airport.day (start_up_members s)) (start_ups d plan rows minutes))
are_shift_answers Warnings d plan text (rows, runways, each, by_name, is) =
    lines_same text _ is
    (lines-flat_map (λ w. object_line d.airport.day (warning_members w)) (λ w. is_object d.airport.day (warning_members w)) (warnings d plan rows runways))
are_shift_answers (Causes by) d plan text (rows, each, is) =
    let groups = told_groups by (on_stand rows) in
    let all = costs_members (codes "TOTAL") (costs_of d plan (on_stand rows)) in
    lines_same text _ is
    (lines-append (flat_map (group_object d plan by (on_stand rows)) groups) (object_line d.airport.day all)
    (lines-flat_map (group_object d plan by (on_stand rows)) (λ g. is_object d.airport.day _) groups) (is_object d.airport.day all))
