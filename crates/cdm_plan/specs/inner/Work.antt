-- What there is to do for the plan of a day.
use Rattle.std.specs.Prelude.{◌≡◌, All, Bool, Option, false, filter, map, not}
use Rattle.std.specs.Option.{option_map_or}
use Rattle.cdm_flight.specs.Journal.{taxi_of}
use Rattle.cdm_sequence.specs.Aims.{TaxiTimes, own_exot}
use Rattle.cdm_plan.specs.declared.brief.Brief.{Brief}
use Rattle.cdm_plan.specs.declared.touched.Touched.{Touched}
use Rattle.cdm_plan.specs.declared.aimed.Asked.{Asked}
use Rattle.cdm_plan.specs.declared.work.Work.{Work}
use Rattle.cdm_plan.specs.Day.{DayRecord}
use Rattle.cdm_plan.specs.DayPlan.{AreByName, records_in}
use Rattle.cdm_plan.specs.Planning.{gone_of, planned_of}
use Rattle.cdm_plan.specs.Sound.{IsSound}
use Rattle.cdm_plan.specs.Kept.{asked_of, is_touched}

-- the flight has this taxi-out time by these taxi times
abbrev pub HasExot : TaxiTimes → Asked → Type 0
HasExot times a = own_exot times a.flight.now ≡ a.exot

-- a flight in brief, if it is kept so, counts on a runway that wasn't touched
abbrev pub is_standing : Touched → Option Brief → Bool
is_standing t kept = option_map_or (λ b. option_map_or (λ r. not (is_touched t r)) b.runway false) kept false

-- the flights that don't stand as they did, those on their stands with their taxi-out times, all runways by name, and those that
-- were touched
pub record IsWork (d : DayRecord) (t : Touched) (w : Work) : Type 0 where
  pub sound : IsSound d
  pub gone : map (λ f. f.now) w.gone.items ≡ gone_of (asked_of t (records_in d.airport d.journal))
  pub asked : map (λ a. a.flight.now) w.asked.items ≡ planned_of (asked_of t (records_in d.airport d.journal))
  pub exots : All (HasExot (taxi_of d.airport d.journal)) w.asked.items
  pub runways : AreByName d (map (λ r. r.now) w.runways.items)
  pub left : w.left.items ≡ filter (λ r. is_touched t r.now.name) w.runways.items
