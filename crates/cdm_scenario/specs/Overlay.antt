-- What further updates make of a day.
use Rattle.std.specs.Prelude.{if◌then◌else◌, is_none, List, ◌++◌}
use Rattle.cdm_flight.specs.declared.update.Update.{Update}
use Rattle.cdm_flight.specs.Accepted.{refusal_of}
use Rattle.cdm_plan.specs.Day.{DayRecord, with_update}

-- the day with further updates
abbrev pub with_updates : DayRecord → List Update → DayRecord
with_updates d updates = record { airport = d.airport; journal = d.journal ++ updates }

-- the day with the update, unless a word refuses it
abbrev pub after_judged : DayRecord → Update → DayRecord
after_judged d u = if is_none (refusal_of d.airport d.journal u) then with_update d u else d
