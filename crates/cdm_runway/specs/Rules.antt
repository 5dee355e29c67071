-- What a runway allows.
use Rattle.std.specs.Prelude.{◌≡◌, ℕ, ◌-◌, ◌/◌, ◌%◌, ◌==◌, Bool, false, ◌&&◌, nat_lt, List, length, replicate, IsTrue}
use Rattle.std.specs.List.{splice}
use Rattle.cdm_flight.specs.declared.spacing.Spacing.{Spacing}
use Rattle.cdm_flight.specs.Cells.{is_cell_length}
use Rattle.cdm_flight.specs.Spacing.{no_spacing}

-- what a runway allows: the capacity of each cell, by its number, at which minutes of the horizon it
-- is closed, and for how long a departure occupies it
pub record RunwayRules : Type 0 where
  pub name : List ℕ
  pub cell : ℕ
  pub caps : List ℕ
  pub closed : List Bool
  pub spacing : Spacing

-- the horizon has as many cells as there are capacities, and as many minutes as there are closures
pub record AreRules (cell : ℕ) (caps : List ℕ) (closed : List Bool) : Type 0 where
  pub cell_length : IsTrue (is_cell_length cell)
  pub cells : length caps ≡ 2880 / cell
  pub minutes : length closed ≡ 2880

-- one capacity everywhere, no closure and no spacing
unfoldable pub plain_rules : List ℕ → ℕ → ℕ → RunwayRules
plain_rules name cell cap = record {
  name = name;
  cell = cell;
  caps = replicate (2880 / cell) cap;
  closed = replicate 2880 false;
  spacing = no_spacing;
}

-- a window that has a minute and cuts no cell
abbrev pub is_rate_window : ℕ → ℕ → ℕ → Bool
is_rate_window cell from to = nat_lt from to && (from % cell == 0) && (to % cell == 0)

-- a value in place of those from one place up to another
abbrev pub with_range : {X : Type 0} → List X → ℕ → ℕ → X → List X
with_range xs from to x = splice xs from to (replicate (to - from) x)

-- a capacity in place of those of the window's cells
abbrev pub with_rate : RunwayRules → ℕ → ℕ → ℕ → RunwayRules
with_rate r from to cap = record r { caps = with_range r.caps (from / r.cell) (to / r.cell) cap }

-- closed, or open again, at the minutes of the window
abbrev pub with_closed : RunwayRules → ℕ → ℕ → Bool → RunwayRules
with_closed r from to closed = record r { closed = with_range r.closed from to closed }
