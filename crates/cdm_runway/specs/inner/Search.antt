-- The first minute of each kind.
use Rattle.std.specs.Prelude.{◌≡◌, ℕ, ◌<◌, ◌≤◌, false, List}
use Rattle.cdm_flight.specs.declared.group.Group.{Group}
use Rattle.cdm_runway.specs.Rules.{RunwayRules}
use Rattle.cdm_runway.specs.Room.{is_closed, AllClosed, IsFree, IsSpaced}
use Rattle.cdm_runway.specs.Passed.{NoneFree, NoneSpaced}
use Rattle.cdm_runway.specs.declared.load.Taken.{Taken}

-- m is the first minute from `from` up to `to` at which the runway is open
pub record IsFirstOpen (r : RunwayRules) (from to m : ℕ) : Type 0 where
  pub after : from ≤ m
  pub before : m < to
  pub is_open : is_closed r m ≡ false
  pub least : AllClosed r from m

-- m is the first open one at which a flight of the group meets no other
pub record IsFirstSpaced (r : RunwayRules) (taken : List Taken) (group : Group) (from to m : ℕ) : Type 0 where
  pub after : from ≤ m
  pub before : m < to
  pub is_open : is_closed r m ≡ false
  pub is_spaced : IsSpaced r taken group m
  pub least : NoneSpaced r taken group from m

-- m is the first that the flight may take
pub record IsFirstFree (r : RunwayRules) (taken : List Taken) (group : Group) (from to m : ℕ) : Type 0 where
  pub after : from ≤ m
  pub before : m < to
  pub free : IsFree r taken group m
  pub least : NoneFree r taken group from m
