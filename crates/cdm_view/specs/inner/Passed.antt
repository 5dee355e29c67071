-- Standings by name that are passed one after another.
use Rattle.std.specs.Prelude.{ℕ, Bool, false, List, drop, slice_get}
use Rattle.std.specs.List.{prefix_len}
use Rattle.std.specs.Option.{option_map_or}
use Rattle.std.specs.Ordering.{is_lt}
use Rattle.cdm_time.specs.declared.calendar.CalendarDate.{CalendarDate}
use Rattle.cdm_flight.specs.Names.{name_cmp}
use Rattle.cdm_view.specs.declared.standing.Standing.{Standing}
use Rattle.cdm_view.specs.Standings.{flight_name, is_same_told}

-- the flight comes before the name
abbrev pub is_below : List ℕ → Standing → Bool
is_below name s = is_lt (name_cmp (flight_name s) name)

-- those from the first on that doesn't
abbrev pub from_name : List ℕ → List Standing → List Standing
from_name name standings = drop (prefix_len (is_below name) standings) standings

-- the first is of the flight, and has its line
abbrev pub is_first_told : CalendarDate → List Standing → Standing → Bool
is_first_told day told s = option_map_or (λ t. is_same_told day t s) (slice_get told 0) false
