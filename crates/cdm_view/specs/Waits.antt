-- A flight that waits by the plan of a day.
use Rattle.std.specs.Prelude.{◌≡◌, ℕ, true, Some}
use Rattle.cdm_flight.specs.Journal.{flight_of}
use Rattle.cdm_flight.specs.Record.{is_planned}
use Rattle.cdm_flight.specs.declared.flight.Flight.{Flight}
use Rattle.cdm_sequence.specs.declared.plan.Plan.{Plan}
use Rattle.cdm_sequence.specs.declared.rule.Rule.{Rule}
use Rattle.cdm_sequence.specs.declared.rule.Rule.TheVariants as rule
use Rattle.cdm_plan.specs.Day.{DayRecord}
use Rattle.cdm_plan.specs.DayPlan.{IsDayPlan}
use Rattle.cdm_plan.specs.Sound.{IsSound}
use Rattle.cdm_view.specs.Reasons.{Waiting, waiting_of}
use Rattle.cdm_view.specs.declared.reason.Reason.{Reason}
use Rattle.cdm_view.specs.declared.reason.Reason.TheVariants.{Ice, Now, Ctot, Closure, Spacing, Rate}

-- the flight is on its stand on a sound day, and waits for this by the day's plan
pub record Waits (d : DayRecord) (plan : Plan) (f : Flight) (w : Waiting) : Type 0 where
  pub sound : IsSound d
  pub of_day : IsDayPlan d plan
  pub known : flight_of d.airport d.journal f.name ≡ Some f
  pub planned : is_planned f.status ≡ true
  pub waits : waiting_of d plan f ≡ Some w

-- the rule of a reason: no minute is in reach while the flight is de-iced, or would have had to leave before now
abbrev pub rule_of : Reason → Rule
rule_of Ice = rule.Horizon
rule_of Now = rule.Horizon
rule_of Ctot = rule.Ctot
rule_of Closure = rule.Closure
rule_of (Spacing flights) = rule.Spacing
rule_of (Rate cap flights) = rule.Rate

-- the place of a rule in the order in which they are tested
abbrev pub place_of : Rule → ℕ
place_of rule.Tobt = 0
place_of rule.Runway = 1
place_of rule.Exot = 2
place_of rule.Horizon = 3
place_of rule.Ctot = 4
place_of rule.Closure = 5
place_of rule.Spacing = 6
place_of rule.Rate = 7
