-- Rows by name that are passed one after another.
use Rattle.std.specs.Prelude.{ℕ, Bool, false, List, drop, slice_get}
use Rattle.std.specs.List.{prefix_len}
use Rattle.std.specs.Option.{option_map_or}
use Rattle.std.specs.Ordering.{is_lt}
use Rattle.cdm_flight.specs.Names.{name_cmp}
use Rattle.cdm_row.specs.Changed.{same_row}
use Rattle.cdm_row.specs.declared.row.Row.{Row}

-- the Row's flight comes before the name
abbrev pub is_below : List ℕ → Row → Bool
is_below name row = is_lt (name_cmp row.flight name)

-- those from the first on whose flight doesn't
abbrev pub from_name : List ℕ → List Row → List Row
from_name name rows = drop (prefix_len (is_below name) rows) rows

-- the first is this Row
abbrev pub is_first : List Row → Row → Bool
is_first rows row = option_map_or (λ r. same_row r row) (slice_get rows 0) false
