-- What contracts see of a load.
use Rattle.std.specs.Prelude.{ℕ, List}
use Rattle.cdm_runway.specs.declared.load.Taken.{Taken}

-- the length of the runway's cells, and what was taken, in order
pub record Load : Type 0 where
  pub cell : ℕ
  pub taken : List Taken
