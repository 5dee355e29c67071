-- What one more record would do to a flight and to its day: a what-if of this record alone.
use Rattle.std.specs.Prelude.{◌≡◌, ℕ, List, [], ◌∷◌, length, Option}
use Rattle.std.specs.Option.{option_and_then, option_map}
use Rattle.cdm_flight.specs.Journal.{flight_of}
use Rattle.cdm_flight.specs.declared.update.Update.{Update}
use Rattle.cdm_sequence.specs.declared.plan.Plan.{Plan}
use Rattle.cdm_plan.specs.Day.{DayRecord}
use Rattle.cdm_view.specs.Standings.{IsChangedTo}
use Rattle.cdm_view.specs.Why.{own_slot}
use Rattle.cdm_view.specs.declared.standing.Standing.{Standing}
use Rattle.cdm_scenario.specs.Outcome.{IsOutcome}
use Rattle.cdm_scenario.specs.Overlay.{with_updates}
use Rattle.cdm_scenario.specs.declared.outcome.Outcome.TheVariants as outcome
use Rattle.cdm_options.specs.declared.effect.Effect.{Effect}
use Rattle.cdm_options.specs.declared.effect.Effect.TheVariants.{Planned, Refused}

-- the take-off of a flight by the plan of a day, if the flight is known and has a slot
abbrev pub minute_in : DayRecord → Plan → List ℕ → Option ℕ
minute_in d plan name = option_map (λ s. s.ttot) (option_and_then (own_slot plan) (flight_of d.airport d.journal name))

-- the day with one more record
abbrev pub with_one : DayRecord → Update → DayRecord
with_one d u = with_updates d (u ∷ [])

-- by the plan with the record: the flight's take-off, the indicators, and how many standings differ from those of the day; or the word
-- that refuses it
abbrev pub IsEffect : DayRecord → List ℕ → Update → Effect → Type 0
IsEffect d name u (Planned ttot counts moved) =
    (plan : Plan) × IsOutcome d (u ∷ []) (outcome.Planned plan counts) × (ttot ≡ minute_in (with_one d u) plan name)
    × (changed : List Standing) × IsChangedTo d (with_one d u) changed × (moved ≡ length changed)
IsEffect d name u (Refused word) = (number : ℕ) × IsOutcome d (u ∷ []) (outcome.Refused number word)
