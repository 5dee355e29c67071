-- How the keys of taxi rows are stored.
use Rattle.std.specs.Prelude.{◌≡◌, ℕ, List, Option, None, Some, refl}
use Rattle.std.specs.Coded.{Coded, code_by, coded×, coded_ℕ, coded_list, coded_option}
use Rattle.cdm_flight.specs.Taxi.{stand_of_place}
use Rattle.cdm_flight.specs.declared.place.Place.{Place}
use Rattle.cdm_flight.specs.declared.place.Place.TheVariants as place

-- the place that a stand is, or the default
abbrev place_of_stand : Option (List ℕ) → Place
place_of_stand None = place.Default
place_of_stand (Some stand) = place.Stand stand

pub place_of_stand-of_place : (p : Place) → place_of_stand (stand_of_place p) ≡ p
place_of_stand-of_place place.Default = refl
place_of_stand-of_place (place.Stand stand) = refl

-- a key is stored as its stand, if it has one, and its runway
abbrev pub key_code : Coded (Place × List ℕ)
key_code = coded× (code_by (Option (List ℕ)) (coded_option (coded_list coded_ℕ)) stand_of_place place_of_stand place_of_stand-of_place) (coded_list coded_ℕ)
