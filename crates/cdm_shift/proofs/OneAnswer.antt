-- A question has one answer.
use Rattle.std.{proofs.Common.{◌≡◌, ◌∙◌, ◌++◌, ◌∷◌, ℕ, List, [], Option, None, ap, sym}, specs.List.{IsDistinct, filter, flat_map}}
use Rattle.cdm_flight.specs.Names.{same_name}
use Rattle.cdm_kinds.specs.declared.format.Format.{Format, TheVariants.{Text, Json}}
use Rattle.cdm_runway.specs.Rules.{RunwayRules}
use Rattle.cdm_sequence.specs.declared.plan.Plan.{Plan}
use Rattle.cdm_plan.{specs.Airport.IsAirport, specs.Day.{DayRecord, flights_in}, specs.DayPlan.IsDayPlan, proofs.NameLemmas.in_order}
use Rattle.cdm_json.proofs.OneAnswer.{answer_one as json_one}
use Rattle.cdm_row.{specs.declared.row.Row.Row, proofs.RowLemmas.one_rows}
use Rattle.cdm_view.proofs.AnswerLemmas.{answer_one as text_one}
use Rattle.cdm_shift.specs.{Answers.{IsDayAnswer, IsOfRows, IsOfRunways}, Lines.{causes_text, next_text, warnings_text}}
use Rattle.cdm_shift.specs.{Objects.{causes_lines, next_lines, warning_lines}, declared.question.DayQuestion.DayQuestion}
use Rattle.cdm_shift.specs.Sheets.{IsLoadSheet, causes_sheet, cell_columns, next_sheet, runway_sheet, warnings_sheet}
use Rattle.cdm_shift.specs.Answers.{IsSheet}
use Rattle.cdm_shift.specs.declared.question.SheetQuestion.{SheetQuestion}
use Rattle.cdm_shift.specs.declared.question.SheetQuestion.TheVariants as sheet
use Rattle.cdm_csv.specs.Rows.{csv_text}
use Rattle.cdm_view.specs.Load.{is_asked}
use Rattle.cdm_shift.specs.declared.question.{DayQuestion.TheVariants.{View, Shift, Sheet}, ShiftQuestion.TheVariants.{Next, Warnings, Causes}}

module _ (d : DayRecord) (plan : Plan) (airport : IsAirport d.airport) (flights : IsDistinct same_name (flights_in d.journal)) (is : IsDayPlan d plan) where
  of_rows : (bytes : List Row → List ℕ) (x y : List ℕ) → IsOfRows d plan bytes x → IsOfRows d plan bytes y → x ≡ y
  of_rows bytes x y (xs, these, a) (ys, those, b) =
      a ∙ ap bytes (one_rows d plan airport.names flights is xs ys these those) ∙ sym b

  of_runways : (bytes : List Row → List RunwayRules → List ℕ) (x y : List ℕ) → IsOfRunways d plan bytes x → IsOfRunways d plan bytes y → x ≡ y
  of_runways bytes x y (xs, rs, these, by, a) (ys, ss, those, also, b) =
      let rows : xs ≡ ys = one_rows d plan airport.names flights is xs ys these those in
      let runways : rs ≡ ss = in_order d rs airport by ∙ sym (in_order d ss airport also) in
      a ∙ (λ i. bytes (rows i) (runways i)) ∙ sym b

  load_one : (asked : Option (List ℕ)) (x y : List ℕ) → IsLoadSheet d plan asked x → IsLoadSheet d plan asked y → x ≡ y
  load_one asked x y (xs, these, a) (ys, those, b) =
      a
      ∙ ap (λ runways. csv_text (cell_columns ∷ []) ++ flat_map (runway_sheet d.airport plan) (filter (is_asked asked) runways)) (in_order d xs airport these ∙ sym (in_order d ys airport those))
      ∙ sym b

  sheet_one : (question : SheetQuestion) (x y : List ℕ) → IsSheet question d plan x → IsSheet question d plan y → x ≡ y
  sheet_one (sheet.Load runway) x y a b = load_one runway x y a.1 b.1
  sheet_one (sheet.Shift (Next minutes)) x y a b = of_rows (λ rows. next_sheet d plan rows minutes) x y a b
  sheet_one (sheet.Shift Warnings) x y a b = of_runways (warnings_sheet d plan) x y a b
  sheet_one (sheet.Shift (Causes by)) x y a b = of_rows (causes_sheet d plan by) x y a b

pub answer_one : (format : Format) (question : DayQuestion) (d : DayRecord) (plan : Plan) (x y : List ℕ) → IsAirport d.airport
    → IsDistinct same_name (flights_in d.journal) → IsDayPlan d plan → IsDayAnswer format question d plan x → IsDayAnswer format question d plan y → x ≡ y
answer_one Text (View question) d plan x y airport flights is a b = text_one question d plan x y airport a b
answer_one Json (View question) d plan x y airport flights is a b = json_one question d None plan x y airport flights is a b
answer_one Text (Shift (Next minutes)) d plan x y airport flights is a b = of_rows d plan airport flights is (λ rows. next_text d plan rows minutes) x y a b
answer_one Text (Shift Warnings) d plan x y airport flights is a b = of_runways d plan airport flights is (warnings_text d plan) x y a b
answer_one Text (Shift (Causes by)) d plan x y airport flights is a b = of_rows d plan airport flights is (causes_text d plan by) x y a b
answer_one Json (Shift (Next minutes)) d plan x y airport flights is a b = of_rows d plan airport flights is (λ rows. next_lines d plan rows minutes) x y a b
answer_one Json (Shift Warnings) d plan x y airport flights is a b = of_runways d plan airport flights is (warning_lines d plan) x y a b
answer_one Json (Shift (Causes by)) d plan x y airport flights is a b = of_rows d plan airport flights is (causes_lines d plan by) x y a b
answer_one Text (Sheet question) d plan x y airport flights is a b = sheet_one d plan airport flights is question x y a b
answer_one Json (Sheet question) d plan x y airport flights is a b = sheet_one d plan airport flights is question x y a b
