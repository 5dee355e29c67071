-- One runway's sequence: its plan with all that is shown of each flight.
use Rattle.std.specs.Prelude.{◌≡◌, ℕ, ◌-◌, ◌++◌, List, Some, is_none, All, Contains, IsPermutation, IsSorted, IsSortedByKey, filter, map}
use Rattle.std.specs.List.{filter_map}
use Rattle.std.specs.Option.{option_map}
use Rattle.cdm_flight.specs.Names.{name_cmp}
use Rattle.cdm_runway.specs.Rules.{RunwayRules}
use Rattle.cdm_runway.specs.Room.{AllClosed, AllFull, AllMet}
use Rattle.cdm_runway.specs.declared.load.Taken.{Taken}
use Rattle.cdm_sequence.specs.Fixed.{takeoffs}
use Rattle.cdm_sequence.specs.Plan.{Placing, taken_before, IsPlan}
use Rattle.cdm_sequence.specs.Slots.{slot_cmp}
use Rattle.cdm_sequence.specs.declared.plan.RunwayPlan.{RunwayPlan}
use Rattle.cdm_sequence.specs.declared.slot.Slot.{Slot}
use Rattle.cdm_sequence.specs.declared.target.Target.{Target}
use Rattle.cdm_sequence.specs.declared.rule.Rule.{Rule}
use Rattle.cdm_sequence.specs.declared.rule.Rule.TheVariants.{Closure, Spacing, Rate}
use Rattle.cdm_sequence.specs.declared.slot.BlockedFlight.{BlockedFlight}
use Rattle.cdm_sequence.specs.declared.slot.Mark.TheVariants.{Planned}

-- a planned flight's slot at its take-off
abbrev pub planned_slot : Target → ℕ → Slot
planned_slot f ttot = record {
  name = f.key.name;
  tobt = Some f.key.tobt;
  exot = f.exot;
  ctot = f.ctot;
  group = f.group;
  tsat = ttot - f.exot;
  ttot = ttot;
  mark = Planned;
  delay = Some (ttot - f.exot - f.key.tobt);
}

-- the names of all flights
abbrev pub flight_names : List Slot → List Target → List (List ℕ)
flight_names fixed targets = map (λ x. x.name) fixed ++ map (λ f. f.key.name) targets

-- the first rule that leaves the flight no minute: the runway is closed at all minutes of its window; or
-- it is open at some, and at each of those the flight meets another; or at some it meets none, and all of
-- those lie in full cells
abbrev pub Blocks : RunwayRules → List Taken → Target → Rule → Type 0
Blocks r taken f Closure = AllClosed r f.window.start f.window.end
Blocks r taken f Spacing = AllMet r taken f.group f.window.start f.window.end
Blocks r taken f Rate = AllFull r taken f.group f.window.start f.window.end
Blocks r taken f rule = ⊥

-- the blocked flight is one of the targets, and has the rule that blocks it
abbrev pub IsRightlyBlocked : RunwayRules → List Taken → List Target → Placing → BlockedFlight → Type 0
IsRightlyBlocked r fixed targets placing b =
    (f : Target) × Contains targets f × (b.name ≡ f.key.name) × Blocks r (taken_before r fixed targets placing f) f b.rule

-- the sequence of a runway by a placing, in which each target has the earliest minute that the fixed
-- flights and the targets before it leave: it shows the fixed flights and the targets with a minute by
-- take-off and name, and the other targets with the rules that block them by name
pub record IsSequenceBy (placing : Placing) (r : RunwayRules) (fixed : List Slot) (targets : List Target) (plan : RunwayPlan) : Type 0 where
  pub runway : plan.runway ≡ r.name
  pub minutes : IsPlan r (takeoffs r fixed) targets placing
  pub slots : IsPermutation (fixed ++ filter_map (λ f. option_map (planned_slot f) (placing f)) targets) plan.slots
  pub slot_order : IsSorted slot_cmp plan.slots
  pub blocked : IsPermutation (map (λ f. f.key.name) (filter (λ f. is_none (placing f)) targets)) (map (λ b. b.name) plan.blocked)
  pub rules : All (IsRightlyBlocked r (takeoffs r fixed) targets placing) plan.blocked
  pub blocked_order : IsSortedByKey (λ b. b.name) name_cmp plan.blocked

-- the sequence of a runway: there is such a placing
abbrev pub IsSequence : RunwayRules → List Slot → List Target → RunwayPlan → Type 0
IsSequence r fixed targets plan = (placing : Placing) × IsSequenceBy placing r fixed targets plan
