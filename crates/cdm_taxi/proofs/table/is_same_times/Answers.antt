use Rattle.std.proofs.{Common.{rules, Bool, ◌&&◌}, lemmas.Map.Lookups.btree_map_eq-Decides}
use Rattle.cdm_flight.specs.contracts.place.PlacePartialEq.TheImpl as place_eq
use Rattle.cdm_flight.specs.contracts.units.TaxiMinutesPartialEq.TheImpl as minutes_eq
use Rattle.cdm_flight.specs.Names.{same_name}
use Rattle.cdm_taxi.proofs.RowLemmas.{Key}
use Rattle.cdm_taxi.proofs.table.is_same_times.Goals as goal

-- equality of keys as it is derived for a place and a name
abbrev same_key : Key → Key → Bool
same_key a b = (place_eq.ghosts).eq a.0 b.0 && same_name a.1 b.1

pub returns : goal.returns
returns c =
    btree_map_eq-Decides {E = same_key} {F = (minutes_eq.ghosts).eq} (λ a b. search rules) (λ v w. search rules)
    c.args.one.now c.args.other.now c.eq.result c.eq.ensures
