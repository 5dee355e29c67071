-- The stands of taxi rows.
use Rattle.std.specs.Prelude.{ℕ, Bool, List}
use Rattle.std.specs.List.{list_any}
use Rattle.std.specs.Set.{distinct_count}
use Rattle.cdm_flight.specs.Names.{same_name}
use Rattle.cdm_flight.specs.Taxi.{TaxiRows, stands_in}

-- the stand has a row
abbrev pub has_row : TaxiRows → List ℕ → Bool
has_row rows stand = list_any (same_name stand) (stands_in rows)

-- how many stands have rows
abbrev pub stand_count : TaxiRows → ℕ
stand_count rows = distinct_count same_name (stands_in rows)
