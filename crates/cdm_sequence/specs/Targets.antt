-- What targets keep.
use Rattle.std.specs.Prelude.{ℕ, ◌+◌, ◌≤◌}
use Rattle.std.specs.declared.ops.Range.{Range}
use Rattle.cdm_flight.specs.declared.key.Key.{Key}

-- what each target keeps: it isn't ready before its TOBT, nor at its runway before it taxied there
pub record KeepsReadiness (key : Key) (exot ready : ℕ) (window : Range ℕ) : Type 0 where
  pub after_tobt : key.tobt ≤ ready
  pub reachable : ready + exot ≤ window.start
