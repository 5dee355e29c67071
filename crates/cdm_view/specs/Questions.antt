-- What is asked of a day, and its answer.
use Rattle.std.specs.Prelude.{◌≡◌, ℕ, List, None}
use Rattle.std.specs.Option.{IsSomeAnd}
use Rattle.cdm_flight.specs.Journal.{flight_of}
use Rattle.cdm_sequence.specs.declared.plan.Plan.{Plan}
use Rattle.cdm_plan.specs.Day.{DayRecord}
use Rattle.cdm_view.specs.declared.fault.ViewFault.{ViewFault}
use Rattle.cdm_view.specs.declared.question.Question.{Question}
use Rattle.cdm_view.specs.declared.question.Question.TheVariants.{Why, Load}
use Rattle.cdm_view.specs.Load.{IsLoad, IsLoadFault, unknown_in}
use Rattle.cdm_view.specs.Why.{IsWhy, IsWhyFault}

-- the text that answers a question of a day with this plan, which knows the flight or the runway that is asked for
abbrev pub IsAnswer : Question → DayRecord → Plan → List ℕ → Type 0
IsAnswer (Why name) d plan text = IsSomeAnd (flight_of d.airport d.journal name) (λ f. IsWhy d plan f text)
IsAnswer (Load runway) d plan text = (unknown_in d.airport runway ≡ None) × IsLoad d plan runway text

-- why a question has no answer: the day doesn't know the flight or the runway, or it does and there was no memory
abbrev pub IsUnanswered : Question → DayRecord → ViewFault → Type 0
IsUnanswered (Why name) d fault = IsWhyFault (flight_of d.airport d.journal name) name fault
IsUnanswered (Load runway) d fault = IsLoadFault d.airport runway fault
