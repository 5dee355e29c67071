-- The answer to what a shift asks of a day.
use Rattle.std.specs.Prelude.{◌≡◌, ℕ, ⊤, List, None}
use Rattle.cdm_runway.specs.Rules.{RunwayRules}
use Rattle.cdm_sequence.specs.declared.plan.Plan.{Plan}
use Rattle.cdm_plan.specs.Day.{DayRecord}
use Rattle.cdm_plan.specs.DayPlan.{AreByName}
use Rattle.cdm_kinds.specs.declared.format.Format.{Format}
use Rattle.cdm_kinds.specs.declared.format.Format.TheVariants.{Text, Json}
use Rattle.cdm_json.specs.Answers.{IsJsonAnswer}
use Rattle.cdm_row.specs.Rows.{AreRows}
use Rattle.cdm_row.specs.declared.row.Row.{Row}
use Rattle.cdm_view.specs.Load.{IsLoadFault, unknown_in}
use Rattle.cdm_view.specs.Questions.{IsAnswer, IsUnanswered}
use Rattle.cdm_view.specs.declared.fault.ViewFault.{ViewFault}
use Rattle.cdm_view.specs.declared.fault.ViewFault.TheVariants as fault
use Rattle.cdm_view.specs.declared.question.Question.{Question}
use Rattle.cdm_shift.specs.Lines.{causes_text, next_text, warnings_text}
use Rattle.cdm_shift.specs.Objects.{causes_lines, next_lines, warning_lines}
use Rattle.cdm_shift.specs.Sheets.{IsLoadSheet, causes_sheet, next_sheet, warnings_sheet}
use Rattle.cdm_shift.specs.declared.question.DayQuestion.{DayQuestion}
use Rattle.cdm_shift.specs.declared.question.DayQuestion.TheVariants.{View, Shift, Sheet}
use Rattle.cdm_shift.specs.declared.question.SheetQuestion.{SheetQuestion}
use Rattle.cdm_shift.specs.declared.question.SheetQuestion.TheVariants as sheet
use Rattle.cdm_shift.specs.declared.question.ShiftQuestion.{ShiftQuestion}
use Rattle.cdm_shift.specs.declared.question.ShiftQuestion.TheVariants.{Next, Warnings, Causes}

-- the text is made of the Rows of the day
abbrev pub IsOfRows : DayRecord → Plan → (List Row → List ℕ) → List ℕ → Type 0
IsOfRows d plan bytes text = (rows : List Row) × AreRows d plan rows × (text ≡ bytes rows)

-- the text is made of the Rows of the day and of its runways by name
abbrev pub IsOfRunways : DayRecord → Plan → (List Row → List RunwayRules → List ℕ) → List ℕ → Type 0
IsOfRunways d plan bytes text = (rows : List Row) × (runways : List RunwayRules) × AreRows d plan rows × AreByName d runways × (text ≡ bytes rows runways)

-- the text that answers what a shift asks
abbrev pub IsShiftText : Format → ShiftQuestion → DayRecord → Plan → List ℕ → Type 0
IsShiftText Text (Next minutes) d plan text = IsOfRows d plan (λ rows. next_text d plan rows minutes) text
IsShiftText Text Warnings d plan text = IsOfRunways d plan (warnings_text d plan) text
IsShiftText Text (Causes by) d plan text = IsOfRows d plan (causes_text d plan by) text
IsShiftText Json (Next minutes) d plan text = IsOfRows d plan (λ rows. next_lines d plan rows minutes) text
IsShiftText Json Warnings d plan text = IsOfRunways d plan (warning_lines d plan) text
IsShiftText Json (Causes by) d plan text = IsOfRows d plan (causes_lines d plan by) text

-- the text that answers a question of a view of the day
abbrev pub IsViewText : Format → Question → DayRecord → Plan → List ℕ → Type 0
IsViewText Text question d plan text = IsAnswer question d plan text
IsViewText Json question d plan text = IsJsonAnswer question d None plan text

-- the rows that answer what a shift asks
abbrev pub IsShiftSheet : ShiftQuestion → DayRecord → Plan → List ℕ → Type 0
IsShiftSheet (Next minutes) d plan text = IsOfRows d plan (λ rows. next_sheet d plan rows minutes) text
IsShiftSheet Warnings d plan text = IsOfRunways d plan (warnings_sheet d plan) text
IsShiftSheet (Causes by) d plan text = IsOfRows d plan (causes_sheet d plan by) text

-- the rows that answer a question of a day with this plan, which knows the runway that is asked for
abbrev pub IsSheet : SheetQuestion → DayRecord → Plan → List ℕ → Type 0
IsSheet (sheet.Load runway) d plan text = (unknown_in d.airport runway ≡ None) × IsLoadSheet d plan runway text
IsSheet (sheet.Shift question) d plan text = IsShiftSheet question d plan text

-- the text that answers a question of a day with this plan
abbrev pub IsDayAnswer : Format → DayQuestion → DayRecord → Plan → List ℕ → Type 0
IsDayAnswer format (View question) d plan text = IsViewText format question d plan text
IsDayAnswer format (Shift question) d plan text = IsShiftText format question d plan text
IsDayAnswer format (Sheet question) d plan text = IsSheet question d plan text

-- there was no memory
abbrev pub IsWantOfMemory : ViewFault → Type 0
IsWantOfMemory fault.Memory = ⊤
IsWantOfMemory _ = ⊥

-- why there are no rows
abbrev pub IsNoSheet : SheetQuestion → DayRecord → ViewFault → Type 0
IsNoSheet (sheet.Load runway) d f = IsLoadFault d.airport runway f
IsNoSheet (sheet.Shift question) d f = IsWantOfMemory f

-- why a question has no answer
abbrev pub IsNotAnswered : DayQuestion → DayRecord → ViewFault → Type 0
IsNotAnswered (View question) d f = IsUnanswered question d f
IsNotAnswered (Shift question) d f = IsWantOfMemory f
IsNotAnswered (Sheet question) d f = IsNoSheet question d f
