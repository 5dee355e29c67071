-- A scenario that is moved to a minute: its times are moved together, so that the earliest of them stands there.
use Rattle.std.specs.Prelude.{ℕ, ◌+◌, ◌-◌, min, nat_lt, nat_le, List, [], ◌∷◌, ◌++◌, length, flat_map, map, Option, None, Some, Result, Ok, Err, if◌then◌else◌}
use Rattle.std.specs.List.{fold}
use Rattle.std.specs.Option.{option_and_then, option_map, option_map_or}
use Rattle.cdm_flight.specs.declared.update.Update.{Update}
use Rattle.cdm_flight.specs.declared.update.Update.TheVariants.{Tobt, Ctot, Rate, Close, Reopen}
use Rattle.cdm_scenario.specs.Scenarios.{ScenarioRecord}

-- Times.

-- the earliest of the times at which an update plans something, and the horizon's end where it has none. What has happened isn't
-- planned, nor is what the clock says.
abbrev pub first_in : Update → ℕ
first_in (Tobt flight tobt) = tobt
first_in (Ctot flight (Some ctot)) = ctot
first_in (Rate runway from to cap) = min from to
first_in (Close runway from to) = min from to
first_in (Reopen runway from to) = min from to
first_in other = 2880

-- the earliest of these times of some updates
abbrev pub first_of : List Update → ℕ
first_of updates = fold (λ first u. min first (first_in u)) 2880 updates

-- Moving.

-- what a time becomes where the first one comes to stand at a minute, if it is a minute of the horizon, or the end of a window
abbrev pub moved_minute : ℕ → ℕ → ℕ → Option ℕ
moved_minute first at minute = if nat_lt (at + (minute - first)) 2880 then Some (at + (minute - first)) else None

abbrev pub moved_bound : ℕ → ℕ → ℕ → Option ℕ
moved_bound first at bound = if nat_le (at + (bound - first)) 2880 then Some (at + (bound - first)) else None

-- a window whose ends are moved
abbrev pub moved_window : ℕ → ℕ → (ℕ → ℕ → Update) → ℕ → ℕ → Option Update
moved_window first at window from to =
    option_and_then (λ start. option_map (λ end. window start end) (moved_bound first at to)) (moved_minute first at from)

-- an update whose times are moved, if none of them leaves the horizon
abbrev pub moved : ℕ → ℕ → Update → Option Update
moved first at (Tobt flight tobt) = option_map (λ minute. Tobt flight minute) (moved_minute first at tobt)
moved first at (Ctot flight (Some ctot)) = option_map (λ minute. Ctot flight (Some minute)) (moved_minute first at ctot)
moved first at (Rate runway from to cap) = moved_window first at (λ start end. Rate runway start end cap) from to
moved first at (Close runway from to) = moved_window first at (λ start end. Close runway start end) from to
moved first at (Reopen runway from to) = moved_window first at (λ start end. Reopen runway start end) from to
moved first at other = Some other

-- the updates with one more, or the number, from 1, of the first of which a time leaves the horizon
abbrev pub with_moved : ℕ → ℕ → Result (List Update) ℕ → Update → Result (List Update) ℕ
with_moved first at (Ok updates) u = option_map_or (λ own. Ok (updates ++ own ∷ [])) (moved first at u) (Err (length updates + 1))
with_moved first at (Err number) u = Err number

abbrev pub moved_updates : ℕ → List Update → Result (List Update) ℕ
moved_updates at updates = fold (with_moved (first_of updates) at) (Ok []) updates

-- Tries.

-- a scenario, and the minute to which it is moved, if it is
pub record TryRecord : Type 0 where
  pub scenario : ScenarioRecord
  pub at : Option ℕ

-- the updates that are tried, or the number of the first of which a time leaves the horizon
abbrev pub tried_updates : TryRecord → Result (List Update) ℕ
tried_updates t = option_map_or (λ at. moved_updates at t.scenario.updates) t.at (Ok t.scenario.updates)

-- a scenario as it is
abbrev pub as_it_is : ScenarioRecord → TryRecord
as_it_is s = record { scenario = s; at = None }

-- a scenario as it is, if no time of it can be moved, and otherwise at a minute
abbrev pub fixed_try : ScenarioRecord → List TryRecord
fixed_try s = if nat_lt (first_of s.updates) 2880 then [] else as_it_is s ∷ []

abbrev pub moved_try : ℕ → ScenarioRecord → List TryRecord
moved_try at s = if nat_lt (first_of s.updates) 2880 then record { scenario = s; at = Some at } ∷ [] else []

abbrev pub tries_at : List ScenarioRecord → ℕ → List TryRecord
tries_at scenarios at = flat_map (moved_try at) scenarios

-- the scenarios without such a time once, and the others at each of these minutes
abbrev pub tries_of : List ScenarioRecord → List ℕ → List TryRecord
tries_of scenarios minutes = flat_map fixed_try scenarios ++ flat_map (tries_at scenarios) minutes
