-- The answer to a question of a day, as JSON.
use Rattle.std.specs.Prelude.{◌≡◌, ℕ, List, Option, None}
use Rattle.std.specs.Option.{IsSomeAnd}
use Rattle.cdm_flight.specs.Journal.{flight_of}
use Rattle.cdm_sequence.specs.declared.plan.Plan.{Plan}
use Rattle.cdm_plan.specs.Day.{DayRecord}
use Rattle.cdm_view.specs.Load.{unknown_in}
use Rattle.cdm_view.specs.declared.question.Question.{Question}
use Rattle.cdm_view.specs.declared.question.Question.TheVariants.{Why, Load}
use Rattle.cdm_json.specs.Loads.{AreLoadLines}
use Rattle.cdm_json.specs.Whys.{IsWhyLine}

-- the text that answers a question of a day with this plan, alone or as a reply to the record of a number; the day knows the flight or the
-- runway that is asked for
abbrev pub IsJsonAnswer : Question → DayRecord → Option ℕ → Plan → List ℕ → Type 0
IsJsonAnswer (Why name) d number plan text = IsSomeAnd (flight_of d.airport d.journal name) (λ f. IsWhyLine d number plan f text)
IsJsonAnswer (Load runway) d number plan text = (unknown_in d.airport runway ≡ None) × AreLoadLines d number plan runway text
