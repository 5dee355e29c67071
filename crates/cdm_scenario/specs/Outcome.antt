-- What becomes of a day by further updates.
use Rattle.std.specs.Prelude.{◌≡◌, ℕ, ◌+◌, ◌<◌, List, ◌++◌, length, take, slice_get, Option, None, Some, Result, Ok, Err}
use Rattle.std.specs.Option.{option_and_then}
use Rattle.cdm_flight.specs.declared.update.Update.{Update}
use Rattle.cdm_flight.specs.declared.word.RefusalWord.{RefusalWord}
use Rattle.cdm_flight.specs.Accepted.{refusal_of}
use Rattle.cdm_report.specs.Counts.{counts_of}
use Rattle.cdm_plan.specs.Day.{DayRecord}
use Rattle.cdm_plan.specs.DayPlan.{IsDayPlan}
use Rattle.cdm_scenario.specs.Overlay.{with_updates}
use Rattle.cdm_scenario.specs.declared.outcome.Outcome.{Outcome}
use Rattle.cdm_scenario.specs.declared.outcome.Outcome.TheVariants.{Planned, Refused}

-- the word that refuses the update at place k, after those before it
abbrev pub word_at : DayRecord → List Update → ℕ → Option RefusalWord
word_at d updates k = option_and_then (refusal_of d.airport (d.journal ++ take k updates)) (slice_get updates k)

-- no word refuses one of the first n updates
abbrev pub AreTaken : DayRecord → List Update → ℕ → Type 0
AreTaken d updates n = (k : ℕ) → k < n → word_at d updates k ≡ None

-- where no word refuses an update, the plan and the indicators of the journal with all of them; else the
-- number, from 1, of the first that a word refuses, and the word
abbrev pub IsOutcome : DayRecord → List Update → Outcome → Type 0
IsOutcome d updates (Planned plan counts) = AreTaken d updates (length updates) × IsDayPlan (with_updates d updates) plan × (counts ≡ counts_of plan)
IsOutcome d updates (Refused number word) = (k : ℕ) × ((number ≡ k + 1) × AreTaken d updates k × (word_at d updates k ≡ Some word))

-- the day with all of the updates, where no word refuses one; else the number, from 1, of the first that a word
-- refuses, and the word
abbrev pub IsLaid : DayRecord → List Update → Result DayRecord (ℕ × RefusalWord) → Type 0
IsLaid d updates (Ok day) = AreTaken d updates (length updates) × (day ≡ with_updates d updates)
IsLaid d updates (Err (number, word)) = IsOutcome d updates (Refused number word)
