-- Variable taxi times: the minutes from each place to each runway.
use Rattle.std.specs.Prelude.{ℕ, ◌+◌, Bool, false, not, ◌&&◌, nat_le, List, Option, None, Some}
use Rattle.std.specs.declared.cmp.Ordering.{Ordering}
use Rattle.std.specs.Ordering.{ordering_then}
use Rattle.std.specs.Option.{option_and_then, option_cmp, option_map, option_map_or, option_or}
use Rattle.std.specs.List.{filter_map, list_any}
use Rattle.std.specs.Set.{distinct_count}
use Rattle.std.specs.FinMap.{FinMap, keys}
use Rattle.cdm_flight.specs.declared.ice.Ice.{Ice}
use Rattle.cdm_flight.specs.declared.ice.Ice.TheVariants.{AtStand, Remote}
use Rattle.cdm_flight.specs.declared.place.Place.{Place}
use Rattle.cdm_flight.specs.declared.place.Place.TheVariants as place
use Rattle.cdm_flight.specs.Names.{name_cmp, same_name}

-- the stand of a place, unless it is the default
abbrev pub stand_of_place : Place → Option (List ℕ)
stand_of_place place.Default = None
stand_of_place (place.Stand stand) = Some stand

-- taxi rows in order: the default first, then stand by stand, and runway by runway
abbrev pub taxi_cmp : Place × List ℕ → Place × List ℕ → Ordering
taxi_cmp a b = ordering_then (option_cmp name_cmp (stand_of_place a.0) (stand_of_place b.0)) (name_cmp a.1 b.1)

-- minutes for each place and runway that has a row
abbrev pub TaxiRows : Type 0
TaxiRows = FinMap taxi_cmp ℕ

-- the stands that have rows, once for each row
abbrev pub stands_in : TaxiRows → List (List ℕ)
stands_in rows = filter_map (λ key. stand_of_place key.0) (keys rows)

-- a stand that is none of those which have rows
abbrev pub is_new_stand : List (List ℕ) → Place → Bool
is_new_stand stands place = option_map_or (λ stand. not (list_any (same_name stand) stands)) (stand_of_place place) false

-- a stand without a row, where 400 stands have rows
abbrev pub is_one_stand_too_many : List (List ℕ) → Place → Bool
is_one_stand_too_many stands place = is_new_stand stands place && nat_le 400 (distinct_count same_name stands)

-- the minutes of de-icing on the stand, and of remote de-icing
abbrev pub stand_minutes : Ice → ℕ
stand_minutes (AtStand minutes) = minutes
stand_minutes _ = 0

abbrev pub remote_minutes : Ice → ℕ
remote_minutes (Remote minutes) = minutes
remote_minutes _ = 0

-- the taxi-out time: from the stand that the flight has, else the default, with remote de-icing
abbrev pub taxi_out : (Place → Option ℕ) → Option (List ℕ) → Ice → Option ℕ
taxi_out minutes stand ice =
    option_map (λ taxi. taxi + remote_minutes ice) (option_or (option_and_then (λ s. minutes (place.Stand s)) stand) (minutes place.Default))
