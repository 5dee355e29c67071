-- How the stands that have rows are kept.
use Rattle.std.specs.Prelude.{◌≡◌, ℕ, List}
use Rattle.std.specs.BTreeSet.{BTreeSet, contains}
use Rattle.cdm_flight.specs.Names.{name_cmp}
use Rattle.cdm_flight.specs.Taxi.{TaxiRows}
use Rattle.cdm_taxi.specs.Stands.{has_row}

-- the set has the stands that have rows
abbrev pub AreStandsOf : TaxiRows → BTreeSet (List ℕ) → Type 0
AreStandsOf rows stands = (stand : List ℕ) → contains name_cmp stands stand ≡ has_row rows stand
