use Rattle.std.proofs.Common.{◌≡◌, ◌++◌, take}
use Rattle.std.specs.Prelude.{flat_map}
use Rattle.cdm_options.specs.Tried.{runway_tried}
use Rattle.cdm_options.proofs.tried.push_runways.Given as goal

abbrev pub invariant-loop-runway : goal.invariant-loop-runway
invariant-loop-runway l = l.tried.items ≡ l.initial.tried.items ++ flat_map (runway_tried l.flight) (take l.runway-index l.runway-items)
