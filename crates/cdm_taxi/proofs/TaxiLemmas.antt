-- The order of taxi rows, and what a row that is set changes.
use Rattle.std.proofs.Common.{◌≡◌, ℕ, ◌&&◌, List, Some, refl, sym, ap, ◌∙◌, cond}
use Rattle.std.{proofs.lemmas.Map.Lookups.{CmpEqualImpliesEq, exact_bytes, exact_pairs}, specs.declared.cmp.Ordering.TheVariants.Equal}
use Rattle.std.specs.{Ordering.is_eq, Option.option_cmp, Cmp.{IsTotalOrder, both_tied, eq_by_cmp_equiv, on_total, then_total}}
use Rattle.std.specs.{Cmp.Lexicographic.{nat_list_cmp_total, options_total, texts_ties}, Prelude.if◌then◌else◌, FinMap.get-insert}
use Rattle.std.specs.FinMap as map
use Rattle.cdm_flight.specs.{declared.place.Place.Place, Names.{name_cmp, same_name}, Taxi.{TaxiRows, stand_of_place, taxi_cmp}}
use Rattle.cdm_flight.specs.Journal.{same_place}
use Rattle.cdm_flight.specs.declared.place.Place.TheVariants as place

-- taxi rows have a total order
pub taxi_cmp_total : IsTotalOrder taxi_cmp
taxi_cmp_total =
    then_total (on_total (λ (key : Place × List ℕ). stand_of_place key.0) (options_total nat_list_cmp_total))
    (on_total (λ (key : Place × List ℕ). key.1) nat_list_cmp_total)

same_place_of_stand : (p q : Place) → option_cmp name_cmp (stand_of_place p) (stand_of_place q) ≡ Equal → p ≡ q
same_place_of_stand place.Default place.Default e = refl
same_place_of_stand place.Default (place.Stand t) e = cc
same_place_of_stand (place.Stand s) place.Default e = cc
same_place_of_stand (place.Stand s) (place.Stand t) e = ap place.Stand (exact_bytes s t e)

-- keys that tie are the same
pub taxi_cmp_same : CmpEqualImpliesEq taxi_cmp
taxi_cmp_same = exact_pairs (λ p q. option_cmp name_cmp (stand_of_place p) (stand_of_place q)) name_cmp same_place_of_stand exact_bytes

-- names tie where they are the same
pub same_name-ties : (s t : List ℕ) → same_name s t ≡ is_eq (name_cmp t s)
same_name-ties s t = texts_ties s t ∙ (eq_by_cmp_equiv nat_list_cmp_total).symm s t

same_place-ties : (p q : Place) → same_place p q ≡ is_eq (option_cmp name_cmp (stand_of_place q) (stand_of_place p))
same_place-ties place.Default place.Default = refl
same_place-ties place.Default (place.Stand t) = refl
same_place-ties (place.Stand s) place.Default = refl
same_place-ties (place.Stand s) (place.Stand t) = same_name-ties s t

-- after a row is set its place and runway have its minutes, and others have theirs
pub get-insert_row : (rows : TaxiRows) (p : Place) (r : List ℕ) (minutes : ℕ) (q : Place) (s : List ℕ)
    → map.get (map.insert rows (p, r) minutes) (q, s) ≡ (if same_place p q && same_name r s then Some minutes else map.get rows (q, s))
get-insert_row rows p r minutes q s =
    get-insert taxi_cmp_total rows (p, r) minutes (q, s)
    ∙ ap (λ b. cond b (Some minutes) (map.get rows (q, s))) (sym (both_tied _ _ _ _ (same_place-ties p q) (same_name-ties r s)))
