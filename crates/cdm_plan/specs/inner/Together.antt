-- Plans of runways that make the day's.
use Rattle.std.specs.Prelude.{◌≡◌, ◌+◌, ◌≤◌, List, length, sum_by}
use Rattle.cdm_flight.specs.Journal.{values_of}
use Rattle.cdm_sequence.specs.declared.plan.Plan.{Plan}
use Rattle.cdm_sequence.specs.declared.plan.RunwayPlan.{RunwayPlan}
use Rattle.cdm_sequence.specs.declared.slot.BlockedFlight.{BlockedFlight}
use Rattle.cdm_plan.specs.Day.{DayRecord}
use Rattle.cdm_plan.specs.Kept.{IsMade}
use Rattle.cdm_plan.specs.Planning.{HasParts}

-- few enough plans and early blocked flights, which make the day's
pub record Together (d : DayRecord) (early : List BlockedFlight) (plans : List RunwayPlan) : Type 0 where
  pub few : sum_by (λ p. length p.slots + length p.blocked) plans + length early ≤ 2000
  pub made : (plan : Plan) → plan.clock ≡ (values_of d.journal).clock → HasParts early plans plan → IsMade d plan
