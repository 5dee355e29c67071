-- What slots and plans keep, and their orders.
use Rattle.std.specs.Prelude.{◌≡◌, ℕ, ◌+◌, ◌<◌, ◌≤◌, Bool, true, false, IsTrue, List, length, Option, Some, None, sum_by, IsSorted, IsSortedByKey}
use Rattle.std.specs.declared.cmp.Ordering.{Ordering}
use Rattle.std.specs.Ordering.{nat_cmp, ordering_then}
use Rattle.std.specs.Option.{ForSome}
use Rattle.cdm_flight.specs.Names.{name_cmp}
use Rattle.cdm_sequence.specs.declared.plan.RunwayPlan.{RunwayPlan}
use Rattle.cdm_sequence.specs.declared.slot.BlockedFlight.{BlockedFlight}
use Rattle.cdm_sequence.specs.declared.slot.Mark.{Mark}
use Rattle.cdm_sequence.specs.declared.slot.Mark.TheVariants.{Planned}
use Rattle.cdm_sequence.specs.declared.slot.Slot.{Slot}

-- off-block or airborne, its take-off is fixed
abbrev pub is_fixed : Mark → Bool
is_fixed Planned = false
is_fixed mark = true

-- a planned flight's delay, from its TOBT to its TSAT; flights that have left have none
abbrev pub IsDelay : Option ℕ → Mark → Option ℕ → ℕ → Type 0
IsDelay None mark tobt tsat = IsTrue (is_fixed mark)
IsDelay (Some delay) Planned (Some tobt) tsat = tsat ≡ tobt + delay
IsDelay (Some delay) mark tobt tsat = ⊥

-- what each slot keeps: the take-off is the taxi-out time after the start-up
pub record KeepsTimes (tobt : Option ℕ) (exot tsat ttot : ℕ) (mark : Mark) (delay : Option ℕ) : Type 0 where
  pub taxi : ttot ≡ tsat + exot
  pub taxi_range : exot < 2880
  pub delayed : IsDelay delay mark tobt tsat
  pub delay_range : ForSome delay (λ d. d < 2880)

-- by take-off, then by name
abbrev pub slot_cmp : Slot → Slot → Ordering
slot_cmp a b = ordering_then (nat_cmp a.ttot b.ttot) (name_cmp a.name b.name)

-- what each plan of a runway keeps: its orders, and at most 2,000 flights
pub record KeepsRunwayOrder (slots : List Slot) (blocked : List BlockedFlight) : Type 0 where
  pub slot_order : IsSorted slot_cmp slots
  pub blocked_order : IsSortedByKey (λ b. b.name) name_cmp blocked
  pub few : length slots + length blocked ≤ 2000

-- what each plan of a day keeps: its orders, and at most 2,000 flights
pub record KeepsPlanOrder (runways : List RunwayPlan) (blocked : List BlockedFlight) : Type 0 where
  pub runway_order : IsSortedByKey (λ r. r.runway) name_cmp runways
  pub blocked_order : IsSortedByKey (λ b. b.name) name_cmp blocked
  pub few : sum_by (λ r. length r.slots) runways + length blocked ≤ 2000
