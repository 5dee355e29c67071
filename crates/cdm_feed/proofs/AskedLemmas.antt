-- What is asked of the scenario that has a name is asked of what it makes of the day.
use Rattle.std.{proofs.Common.{◌≡◌, ℕ, ◌||◌, ◌++◌, List, Option, None, Some, Result, Ok, Err, IfErr, IfOk, refl, sym, subst}, specs.Option.IsSomeAnd}
use Rattle.std.proofs.lemmas.List.Folds.{list_any-append}
use Rattle.cdm_flight.specs.declared.{update.Update.Update, word.RefusalWord.RefusalWord}
use Rattle.cdm_plan.specs.Day.{DayRecord}
use Rattle.cdm_view.specs.declared.fault.ViewFault.{ViewFault}
use Rattle.cdm_view.specs.declared.fault.ViewFault.TheVariants as view
use Rattle.cdm_shift.specs.{Answers.IsNotAnswered, Warnings.{has_clock, is_clock}, declared.question.DayQuestion.DayQuestion}
use Rattle.cdm_scenario.specs.{Outcome.IsLaid, Scenarios.{ScenarioRecord, scenario_named}}
use Rattle.cdm_kinds.specs.declared.format.Format.{Format}
use Rattle.cdm_files.specs.declared.common_fault.CommonFault.TheVariants as common
use Rattle.cdm_files.specs.declared.run_error.RunError.{RunError}
use Rattle.cdm_files.specs.declared.run_error.RunError.TheVariants as error
use Rattle.cdm_feed.specs.{Made.{IsAskedOf, IsUntold, IsView, view_error}, declared.asked.DayText.TheVariants.Answer}
use Rattle.cdm_feed.specs.inner.Over.{IsUntoldOver}

-- what follows from what is said of an answer, and of an error
pub ok-then : {T E : Type 0} (P Q : T → Type 0) (r : Result T E) → ((x : T) → P x → Q x) → IfOk r P → IfOk r Q
ok-then P Q (Ok x) more is = more x is
ok-then P Q (Err e) more is = is

pub err-then : {T E : Type 0} (P Q : E → Type 0) (r : Result T E) → ((e : E) → P e → Q e) → IfErr r P → IfErr r Q
err-then P Q (Ok x) more is = is
err-then P Q (Err e) more is = more e is

-- a CLOCK among updates and further ones
pub clock_after : (journal updates : List Update) → has_clock (journal ++ updates) ≡ (has_clock journal || has_clock updates)
clock_after journal updates = list_any-append is_clock journal updates

-- why a day has no answer
pub over_fault : (question : DayQuestion) (d : DayRecord) (name : List ℕ) (s : ScenarioRecord) (day : DayRecord) → IsLaid d s.updates (Ok day)
    → (fault : ViewFault) → IsNotAnswered question day fault → IsUntoldOver question d name s (view_error fault)
over_fault question d name s day laid (view.NoFlight flight) is = (day, laid, is)
over_fault question d name s day laid (view.NoRunway runway) is = (day, laid, is)
over_fault question d name s day laid view.Memory is = tt

pub base_fault : (question : DayQuestion) (format : Format) (d : DayRecord) (questions : List ScenarioRecord) (fault : ViewFault) → IsNotAnswered question d fault
    → IsUntold (Answer question None format) d questions (view_error fault)
base_fault question format d questions (view.NoFlight flight) is = (d, refl, is)
base_fault question format d questions (view.NoRunway runway) is = (d, refl, is)
base_fault question format d questions view.Memory is = tt

module _ (question : DayQuestion) (format : Format) (d : DayRecord) (questions : List ScenarioRecord) (name : List ℕ) (s : ScenarioRecord) (found : scenario_named questions name ≡ Some s) where
  -- an answer
  pub view-of : (text : List ℕ) → IsView format question (IsLaid d s.updates) text → IsView format question (IsAskedOf (Some name) d questions) text
  view-of text is =
      subst (λ (o : Option ScenarioRecord). IsView format question (λ by. IsSomeAnd o (λ t. IsLaid d t.updates by)) text) (sym found) is

  -- what is said of the scenario is said of the one that has the name
  laid-of : (r : Result DayRecord (ℕ × RefusalWord)) → IsLaid d s.updates r → IsAskedOf (Some name) d questions r
  laid-of r is = subst (λ (o : Option ScenarioRecord). IsSomeAnd o (λ t. IsLaid d t.updates r)) (sym found) is

  -- why there is no answer
  pub untold-of : (e : RunError) → IsUntoldOver question d name s e → IsUntold (Answer question (Some name) format) d questions e
  untold-of (error.Common common.Memory) is = is
  untold-of (error.Common _) is = absurd is
  untold-of (error.Scenario number word) is = absurd is
  untold-of (error.NoFlight flight) is = (is.0, laid-of (Ok is.0) is.1, is.2)
  untold-of (error.NotPlanned flight status) is = absurd is
  untold-of (error.NoRunway runway) is = (is.0, laid-of (Ok is.0) is.1, is.2)
  untold-of (error.NoScenario scenario) is = absurd is
  untold-of error.OtherDay is = absurd is
  untold-of (error.NextAirport number word) is = absurd is
  untold-of (error.NextDay days) is = absurd is
  untold-of (error.Update scenario number word) is = (refl-some is.0, laid-of (Err (number, word)) is.1)
    where
      refl-some : scenario ≡ name → Some name ≡ Some scenario
      refl-some same = subst (λ (n : List ℕ). Some name ≡ Some n) (sym same) refl
