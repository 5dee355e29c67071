-- Where the flights of a day stand in a picture, from left to right.
use Rattle.std.specs.Prelude.{ℕ, ◌+◌, ◌-◌, ◌*◌, ◌/◌, ◌<◌, ◌≤◌, All, List, map, flat_map}
use Rattle.cdm_sequence.specs.declared.plan.Plan.{Plan}
use Rattle.cdm_sequence.specs.declared.plan.RunwayPlan.{RunwayPlan}
use Rattle.cdm_sequence.specs.declared.slot.Slot.{Slot}
use Rattle.cdm_picture.specs.declared.hours.Hours.{Hours}

-- where a minute lies, in tenths of a pixel: the hours take 1,400 pixels behind the first 100
abbrev pub x_of : Hours → ℕ → ℕ
x_of hours minute = 1000 + (minute - hours.first) * 14000 / (hours.end - hours.first)

-- a slot on a runway, and where its take-off is
pub record Place : Type 0 where
  pub runway : List ℕ
  pub slot : Slot
  pub x : ℕ

-- the place of a slot: that of its TTOT
abbrev pub slot_place : Hours → List ℕ → Slot → Place
slot_place hours runway slot = record { runway = runway; slot = slot; x = x_of hours slot.ttot }

-- those of a runway's slots
abbrev pub runway_places : Hours → RunwayPlan → List Place
runway_places hours plan = map (slot_place hours plan.runway) plan.slots

-- those of all slots of a plan, each once, runway by runway
abbrev pub plan_places : Hours → Plan → List Place
plan_places hours plan = flat_map (runway_places hours) plan.runways

-- a minute is within the hours
abbrev pub IsWithin : Hours → ℕ → Type 0
IsWithin hours minute = (hours.first ≤ minute) × (minute < hours.end)

-- the hours have each take-off of a plan
abbrev pub HaveTakeOffs : Hours → Plan → Type 0
HaveTakeOffs hours plan = All (λ p. All (λ s. IsWithin hours s.ttot) p.slots) plan.runways
