-- Minutes from a first one up to an end, which have some take-offs.
use Rattle.std.specs.Prelude.{ℕ, ◌<◌, ◌≤◌, All, List, ⊤}
use Rattle.cdm_scenario.specs.declared.outcome.Outcome.{Outcome}
use Rattle.cdm_scenario.specs.declared.outcome.Outcome.TheVariants.{Planned, Refused}
use Rattle.cdm_sequence.specs.declared.plan.Plan.{Plan}
use Rattle.cdm_sequence.specs.declared.slot.Slot.{Slot}
use Rattle.cdm_picture.specs.Places.{HaveTakeOffs}
use Rattle.cdm_picture.specs.declared.hours.Hours.{Hours}
use Rattle.cdm_picture.specs.declared.spans.Span.{Span}

-- the minute is one of the span
abbrev pub Has : Span → ℕ → Type 0
Has span minute = (span.first ≤ minute) × (minute < span.end)

-- what one span has the other has too
abbrev pub Keeps : Span → Span → Type 0
Keeps span longer = (minute : ℕ) → Has span minute → Has longer minute

-- the span has the take-offs of slots, of a plan, and of an outcome that is a plan
abbrev pub HasSlots : Span → List Slot → Type 0
HasSlots span slots = All (λ s. Has span s.ttot) slots

abbrev pub HasPlan : Span → Plan → Type 0
HasPlan span plan = All (λ p. HasSlots span p.slots) plan.runways

abbrev pub HasOutcome : Span → Outcome → Type 0
HasOutcome span (Planned plan counts) = HasPlan span plan
HasOutcome span (Refused number word) = ⊤

-- the hours have the take-offs of an outcome that is a plan
abbrev pub HaveOutcome : Hours → Outcome → Type 0
HaveOutcome hours (Planned plan counts) = HaveTakeOffs hours plan
HaveOutcome hours (Refused number word) = ⊤
