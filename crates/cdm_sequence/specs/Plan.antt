-- The plan of one runway, as a fact about which flight has which minute.
use Rattle.std.specs.Prelude.{◌≡◌, ℕ, ◌<◌, ◌≤◌, ◌++◌, true, false, List, Option, Some, None, IfSome, All, Contains, filter}
use Rattle.std.specs.List.{filter_map}
use Rattle.std.specs.Option.{option_map}
use Rattle.cdm_flight.specs.Names.{same_name}
use Rattle.cdm_flight.specs.Order.{is_before}
use Rattle.cdm_runway.specs.Rules.{RunwayRules}
use Rattle.cdm_runway.specs.Room.{cap_at, held_in_cell, is_closed, meets, taken_by, IsEarliest, IsFree, IsSpaced}
use Rattle.cdm_runway.specs.declared.load.Taken.{Taken}
use Rattle.cdm_sequence.specs.declared.target.Target.{Target}

-- a set of pairs of a flight and a minute, at most one for each flight
abbrev pub Placing : Type 0
Placing = Target → Option ℕ

-- what a flight takes of a runway by a placing
abbrev pub taken_of : RunwayRules → Placing → Target → Option Taken
taken_of r placing f = option_map (taken_by r f.group) (placing f)

-- what is taken when a flight's turn comes: by the fixed flights, and by the flights before it
abbrev pub taken_before : RunwayRules → List Taken → List Target → Placing → Target → List Taken
taken_before r fixed targets placing f = fixed ++ filter_map (taken_of r placing) (filter (λ g. is_before g.key f.key) targets)

-- the earliest minute of its window that the flight may take, or nothing where there is none
abbrev pub IsLeast : RunwayRules → List Taken → Target → Option ℕ → Type 0
IsLeast r taken f (Some m) = IsEarliest r taken f.group f.window.start f.window.end m
IsLeast r taken f None = (k : ℕ) → f.window.start ≤ k → k < f.window.end → IsFree r taken f.group k → ⊥

-- each flight has the earliest minute that the fixed flights and those before it leave, and no
-- minute where they leave none
abbrev pub IsPlan : RunwayRules → List Taken → List Target → Placing → Type 0
IsPlan r fixed targets placing = All (λ f. IsLeast r (taken_before r fixed targets placing f) f (placing f)) targets

-- a minute that a flight may have, where the fixed flights and those before it take these, and all flights
-- those
pub record MayHave (r : RunwayRules) (earlier all : List Taken) (f : Target) (m : ℕ) : Type 0 where
  pub after : f.window.start ≤ m
  pub before : m < f.window.end
  pub is_open : is_closed r m ≡ false
  pub is_spaced : IsSpaced r earlier f.group m
  pub within_cap : held_in_cell r.cell all m ≤ cap_at r m

-- each flight that has a minute may have it: it is open and in the flight's window, no two flights meet, of
-- which the later in the order is asked, and the cell isn't overfilled
abbrev pub IsAllowed : RunwayRules → List Taken → List Target → Placing → Type 0
IsAllowed r fixed targets placing =
    All (λ f. IfSome (placing f) (MayHave r (taken_before r fixed targets placing f) (fixed ++ filter_map (taken_of r placing) targets) f)) targets

-- each flight that has a minute meets neither a fixed flight nor one before it in the order
abbrev pub IsSpacedInOrder : RunwayRules → List Taken → List Target → Placing → Type 0
IsSpacedInOrder r fixed targets placing = All (λ f. IfSome (placing f) (IsSpaced r (taken_before r fixed targets placing f) f.group)) targets

-- no flight that has a minute meets a fixed flight, or another one that has a minute
pub record IsSpacedInPairs (r : RunwayRules) (fixed : List Taken) (targets : List Target) (placing : Placing) : Type 0 where
  pub from_fixed : All (λ f. IfSome (placing f) (IsSpaced r fixed f.group)) targets
  pub from_others : (f g : Target) (m k : ℕ) → Contains targets f → Contains targets g → same_name f.key.name g.key.name ≡ false
      → placing f ≡ Some m → placing g ≡ Some k → meets (taken_by r f.group m) (taken_by r g.group k) ≡ false

-- a smaller minute, or a minute against none
abbrev pub IsSooner : Option ℕ → Option ℕ → Type 0
IsSooner (Some a) (Some b) = a < b
IsSooner (Some a) None = Unit {0}
IsSooner None b = ⊥

-- at the first flight in the order at which the two differ, p has it sooner
pub record IsEarlier (targets : List Target) (p q : Placing) : Type 0 where
  pub first : Target
  pub among : Contains targets first
  pub sooner : IsSooner (p first) (q first)
  pub agree : (g : Target) → Contains targets g → is_before g.key first.key ≡ true → p g ≡ q g

-- first in order: it is allowed, and no allowed placing is earlier
pub record IsFirst (r : RunwayRules) (fixed : List Taken) (targets : List Target) (placing : Placing) : Type 0 where
  pub allowed : IsAllowed r fixed targets placing
  pub none_earlier : (other : Placing) → IsAllowed r fixed targets other → IsEarlier targets other placing → ⊥
