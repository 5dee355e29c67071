-- What a port of streams is made of.
use Rattle.std.specs.Prelude.{ℕ, List, Bool, Option}
use Rattle.cdm_port.specs.declared.fault.PortFault.{PortFault}
use Rattle.cdm_port.specs.declared.happening.Happening.{Happening}

-- the input, the output, where the torn line is told, the journal's file and whether
-- it is marked as served, notes of all that has happened, and the fault of the call that failed
-- last
pub record Parts (I O E J : Type 0) : Type 0 where
  pub input : I
  pub output : O
  pub errors : E
  pub journal : J
  pub marked : Bool
  pub notes : List (Happening × List ℕ)
  pub fault : Option PortFault
