-- What a placing shows of the flights.
use Rattle.std.specs.Prelude.{ℕ, ◌++◌, List, is_none, filter, map}
use Rattle.std.specs.List.{filter_map}
use Rattle.std.specs.Option.{option_map}
use Rattle.cdm_sequence.specs.Plan.{Placing}
use Rattle.cdm_sequence.specs.Sequence.{planned_slot}
use Rattle.cdm_sequence.specs.declared.slot.Slot.{Slot}
use Rattle.cdm_sequence.specs.declared.target.Target.{Target}

-- the slots of the fixed flights, and of the targets that have a minute
abbrev pub slots_by : Placing → List Slot → List Target → List Slot
slots_by placing fixed targets = fixed ++ filter_map (λ f. option_map (planned_slot f) (placing f)) targets

-- the names of the targets that have no minute
abbrev pub names_left : Placing → List Target → List (List ℕ)
names_left placing targets = map (λ f. f.key.name) (filter (λ f. is_none (placing f)) targets)
