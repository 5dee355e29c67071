-- Where a flight may take a runway.
use Rattle.std.specs.Prelude.{◌≡◌, ℕ, ◌+◌, ◌<◌, ◌≤◌, ◌/◌, ◌==◌, max, min, nat_lt, Bool, true, false, List, All, count_by, slice_index, slice_index_or}
use Rattle.std.specs.Prelude.{Result, Ok, Err}
use Rattle.cdm_flight.specs.declared.group.Group.{Group}
use Rattle.cdm_flight.specs.Spacing.{occupancy_of}
use Rattle.cdm_runway.specs.Rules.{RunwayRules}
use Rattle.cdm_runway.specs.declared.load.Blocked.{Blocked}
use Rattle.cdm_runway.specs.declared.load.Blocked.TheVariants.{Closure, Rate, Spacing}
use Rattle.cdm_runway.specs.declared.load.Taken.{Taken}

-- how many flights the cell of a minute takes
abbrev pub cap_at : RunwayRules → ℕ → ℕ
cap_at r m = slice_index r.caps (m / r.cell)

-- the runway is closed at a minute
abbrev pub is_closed : RunwayRules → ℕ → Bool
is_closed r m = slice_index_or r.closed m false

-- how many of the taken minutes lie in the cell of a minute
abbrev pub held_in_cell : ℕ → List Taken → ℕ → ℕ
held_in_cell cell taken m = count_by (λ t. t.minute / cell == m / cell) taken

-- a flight of a group takes a minute, and occupies the runway from it on
abbrev pub taken_by : RunwayRules → Group → ℕ → Taken
taken_by r group m = record { minute = m; occupancy = occupancy_of r.spacing group }

-- there is a minute at which both occupy the runway: the first of the later one is before the end of each
abbrev pub meets : Taken → Taken → Bool
meets s t = nat_lt (max s.minute t.minute) (min (s.minute + s.occupancy) (t.minute + t.occupancy))

-- a flight of the group that takes the minute meets none of those that took theirs
abbrev pub IsSpaced : RunwayRules → List Taken → Group → ℕ → Type 0
IsSpaced r taken group m = All (λ t. meets (taken_by r group m) t ≡ false) taken

-- a flight of the group may take the minute: the runway is open, the flight meets no other, and the minute's cell holds fewer
-- than its capacity
pub record IsFree (r : RunwayRules) (taken : List Taken) (group : Group) (m : ℕ) : Type 0 where
  pub is_open : is_closed r m ≡ false
  pub is_spaced : IsSpaced r taken group m
  pub has_room : held_in_cell r.cell taken m < cap_at r m

-- m is the earliest minute from `from` up to `to` that a flight of the group may take
pub record IsEarliest (r : RunwayRules) (taken : List Taken) (group : Group) (from to m : ℕ) : Type 0 where
  pub after : from ≤ m
  pub before : m < to
  pub free : IsFree r taken group m
  pub least : (k : ℕ) → from ≤ k → k < to → IsFree r taken group k → m ≤ k

-- the runway is closed at each minute from `from` up to `to`
abbrev pub AllClosed : RunwayRules → ℕ → ℕ → Type 0
AllClosed r from to = (k : ℕ) → from ≤ k → k < to → is_closed r k ≡ true

-- the runway is open at some minute, and at each open one the flight meets another
pub record AllMet (r : RunwayRules) (taken : List Taken) (group : Group) (from to : ℕ) : Type 0 where
  pub some_open : (k : ℕ) × (from ≤ k) × (k < to) × (is_closed r k ≡ false)
  pub met : (k : ℕ) → from ≤ k → k < to → is_closed r k ≡ false → IsSpaced r taken group k → ⊥

-- the flight meets none at some open minute, and the cell of each such minute is full
pub record AllFull (r : RunwayRules) (taken : List Taken) (group : Group) (from to : ℕ) : Type 0 where
  pub some_spaced : (k : ℕ) × (from ≤ k) × (k < to) × (is_closed r k ≡ false) × IsSpaced r taken group k
  pub full : (k : ℕ) → from ≤ k → k < to → is_closed r k ≡ false → IsSpaced r taken group k → cap_at r k ≤ held_in_cell r.cell taken k

-- what a window gives a flight of the group: the earliest minute that it may take, or the first of the
-- three rules that leaves none
abbrev pub Gives : RunwayRules → List Taken → Group → ℕ → ℕ → Result ℕ Blocked → Type 0
Gives r taken group from to (Ok m) = IsEarliest r taken group from to m
Gives r taken group from to (Err Closure) = AllClosed r from to
Gives r taken group from to (Err Spacing) = AllMet r taken group from to
Gives r taken group from to (Err Rate) = AllFull r taken group from to
