-- The day after an update.
use Rattle.std.specs.Prelude.{◌≡◌, [], ◌∷◌, None, Some, Result, Ok, Err}
use Rattle.cdm_flight.specs.Accepted.{accepted, refusal}
use Rattle.cdm_flight.specs.declared.role.Role.{Role}
use Rattle.cdm_flight.specs.declared.update.Update.{Update}
use Rattle.cdm_flight.specs.declared.word.RefusalWord.{RefusalWord}
use Rattle.cdm_plan.specs.Day.{DayRecord}

-- the day with the update, which no word refuses; or the word that does
abbrev pub IsNextBy : DayRecord → Role × Update → Result DayRecord RefusalWord → Type 0
IsNextBy d update (Ok next) =
    (refusal d.airport d.journal update.0 update.1 ≡ None)
    × (next ≡ record d { journal = accepted d.airport d.journal (update ∷ []) })
IsNextBy d update (Err word) = refusal d.airport d.journal update.0 update.1 ≡ Some word
