-- What planned flights could have.
use Rattle.std.specs.Prelude.{◌≡◌, ℕ, ◌+◌, ◌≤◌, Bool, false, List, length, Option, None, Some, All, IsTrue, if◌then◌else◌}
use Rattle.std.specs.List.{IsDistinct, filter_map}
use Rattle.std.specs.Option.{option_map_or}
use Rattle.cdm_flight.specs.declared.values.DayValues.{DayValues}
use Rattle.cdm_flight.specs.Names.{same_name}
use Rattle.cdm_flight.specs.declared.flight.Flight.{Flight}
use Rattle.cdm_sequence.specs.Aims.{TaxiTimes, IsAim, own_exot}
use Rattle.cdm_sequence.specs.Sequence.{flight_names}
use Rattle.cdm_sequence.specs.Slots.{is_fixed}
use Rattle.cdm_sequence.specs.declared.slot.Slot.{Slot}
use Rattle.cdm_sequence.specs.declared.target.Target.{Target}
use Rattle.cdm_plan.specs.Planning.{blocked_in, target_in}
use Rattle.cdm_sequence.specs.declared.slot.BlockedFlight.{BlockedFlight}
use Rattle.cdm_plan.specs.declared.aimed.Aimed.{Aimed}

-- the flight's name, and what it could have
pub record IsAimed (times : TaxiTimes) (values : DayValues) (f : Flight) (a : Aimed) : Type 0 where
  pub name : a.name ≡ f.name
  pub aim : IsAim f times values a.aim

-- so by its taxi-out time to its runway, as any taxi times give it
pub record IsAimedBy (values : DayValues) (f : Flight) (exot : Option ℕ) (a : Aimed) : Type 0 where
  pub name : a.name ≡ f.name
  pub aim : (times : TaxiTimes) → own_exot times f ≡ exot → IsAim f times values a.aim

-- the flight has this runway
abbrev pub is_on : List ℕ → Flight → Bool
is_on r f = option_map_or (λ runway. same_name runway r) f.runway false

-- the value, if it passes the test
abbrev pub if_passes : {X : Type 0} → (X → Bool) → Option X → Option X
if_passes test None = None
if_passes test (Some x) = if test x then Some x else None

-- the target, if it is on the runway
abbrev pub if_on : List ℕ → Option Target → Option Target
if_on r target = if_passes (λ t. same_name t.runway r) target

-- the flight's target, if it has one on the runway
abbrev pub target_for : List ℕ → Aimed → Option Target
target_for r a = if_on r (target_in a.aim)

-- the flights that are blocked before the traffic of their runway is asked
abbrev pub early_among : List Aimed → List BlockedFlight
early_among aims = filter_map (λ a. blocked_in a.name a.aim) aims

-- a runway's fixed flights have left their stands, the names of all its flights differ, and there are at most 2,000
pub record CanSequence (fixed : List Slot) (targets : List Target) : Type 0 where
  pub left : All (λ x. IsTrue (is_fixed x.mark)) fixed
  pub names : IsDistinct same_name (flight_names fixed targets)
  pub few : length fixed + length targets ≤ 2000
