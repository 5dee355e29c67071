-- The answer of a judge to an update.
use Rattle.std.specs.Prelude.{◌≡◌, Result, IfOk}
use Rattle.std.specs.Result.{result_err}
use Rattle.cdm_flight.specs.declared.update.Update.{Update}
use Rattle.cdm_flight.specs.declared.word.RefusalWord.{RefusalWord}
use Rattle.cdm_flight.specs.Accepted.{refusal_of}
use Rattle.cdm_plan.specs.Day.{DayRecord}
use Rattle.cdm_day.specs.Changes.{IsChange}
use Rattle.cdm_day.specs.declared.change.Change.{Change}

-- the first word that refuses the update, or what it puts where
pub record IsJudged (d : DayRecord) (u : Update) (answer : Result Change RefusalWord) : Type 0 where
  pub word : result_err answer ≡ refusal_of d.airport d.journal u
  pub change : IfOk answer (IsChange d u)
