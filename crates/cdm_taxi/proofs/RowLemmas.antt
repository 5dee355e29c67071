-- Rows in a `BTreeMap`, seen as a finite map.
use Rattle.std.proofs.Common.{◌≡◌, ℕ, cond, List, [], ◌∷◌, Some, refl, sym, ap, subst, ◌∙◌}
use Rattle.std.proofs.lemmas.Map.{Lookups.{CmpEqualImpliesEq, btree_map_from_get}, Entries.entries_from_clone}
use Rattle.std.specs.{Prelude.{Result, Ok, Err, OnErr}, declared.cmp.Ordering.Ordering, Ordering.{ordering_then, is_eq}, Option.option_cmp}
use Rattle.std.specs.{Cmp.{IsTotalOrder, eq_by_cmp_equiv}, BTreeMap.{BTreeMap, is_at}, List.AllZip, Map.lookup}
use Rattle.std.specs.FinMap.{find, get-insert, get-from_entries, same_map}
use Rattle.std.specs.BTreeMap as tree
use Rattle.std.specs.FinMap as map
use Rattle.cdm_flight.specs.contracts.place.PlaceOrd.TheImpl as place_ord
use Rattle.cdm_flight.specs.{declared.place.Place.Place, Names.name_cmp, Taxi.{TaxiRows, stand_of_place, taxi_cmp}}
use Rattle.cdm_flight.specs.declared.place.Place.TheVariants as place
use Rattle.cdm_taxi.proofs.TaxiLemmas.{taxi_cmp_total, taxi_cmp_same}

abbrev pub Key : Type 0
Key = Place × List ℕ

-- the order of keys as `Ord` is derived for a place and a name
abbrev pub key_cmp : Key → Key → Ordering
key_cmp a b = ordering_then ((place_ord.ghosts).cmp a.0 b.0) (name_cmp a.1 b.1)

same_place_cmp : (p q : Place) → (place_ord.ghosts).cmp p q ≡ option_cmp name_cmp (stand_of_place p) (stand_of_place q)
same_place_cmp place.Default place.Default = refl
same_place_cmp place.Default (place.Stand t) = refl
same_place_cmp (place.Stand s) place.Default = refl
same_place_cmp (place.Stand s) (place.Stand t) = refl

-- it is the order of taxi rows
pub same_key_cmp : key_cmp ≡ taxi_cmp
same_key_cmp = λ i a b. ordering_then (same_place_cmp a.0 b.0 i) (name_cmp a.1 b.1)

-- what contracts see of the rows
abbrev pub rows_of : BTreeMap Key ℕ → TaxiRows
rows_of m = map.from_entries m.entries

find-lookup : (es : List (Key × ℕ)) (q : Key) → lookup (is_at (key_cmp q)) es ≡ find taxi_cmp q es
find-lookup [] q = refl
find-lookup (e ∷ es) q = λ i. cond (is_eq (same_key_cmp i q e.0)) (Some e.1) (find-lookup es q i)

pub get-rows_of : (m : BTreeMap Key ℕ) (q : Key) → tree.get key_cmp m q ≡ map.get (rows_of m) q
get-rows_of m q = find-lookup m.entries q ∙ sym (get-from_entries taxi_cmp_total m.entries q)

-- an entry that is written is a row that is set
pub rows_of-insert : (m n : BTreeMap Key ℕ) (rows : TaxiRows) (k : Key) (v : ℕ) → rows_of m ≡ rows
    → ((q : Key) → tree.get key_cmp n q ≡ cond (is_at (key_cmp k) q) (Some v) (tree.get key_cmp m q)) → rows_of n ≡ map.insert rows k v
rows_of-insert m n rows k v are written = same_map taxi_cmp_total taxi_cmp_same (rows_of n) (map.insert rows k v) (λ q.
    let tied = ap (λ (R : Key → Key → Ordering). is_eq (R k q)) same_key_cmp ∙ (eq_by_cmp_equiv taxi_cmp_total).symm k q in
    sym (get-rows_of n q) ∙ written q ∙ (λ i. cond (tied i) (Some v) ((get-rows_of m q ∙ ap (λ (t : TaxiRows). map.get t q) are) i))
    ∙ sym (get-insert taxi_cmp_total rows k v q))

-- maps with the same rows have the same entries
pub entries-same_rows : (m n : BTreeMap Key ℕ) → tree.IsOrdered key_cmp m → tree.IsOrdered key_cmp n → rows_of m ≡ rows_of n → m.entries ≡ n.entries
entries-same_rows m n first second same =
    btree_map_from_get (subst (λ R. IsTotalOrder R) (sym same_key_cmp) taxi_cmp_total) m n first second
    (λ q. get-rows_of m q ∙ ap (λ (rows : TaxiRows). map.get rows q) same ∙ sym (get-rows_of n q))
    (subst (λ R. CmpEqualImpliesEq R) (sym same_key_cmp) taxi_cmp_same)

-- the entries of a clone are the entries
pub entries-clone : (es fs : List (Key × ℕ)) → AllZip (λ p q. ((q.0.0 ≡ p.0.0) × (q.0.1 ≡ p.0.1)) × (q.1 ≡ p.1)) es fs → fs ≡ es
entries-clone = entries_from_clone (λ x y. (y.0 ≡ x.0) × (y.1 ≡ x.1)) (λ v w. w ≡ v) (λ x y e i. (e.0 i, e.1 i)) (λ v w e. e)

pub OnErr-from : {T E P : Type 0} (r : Result T E) → P → OnErr r P
OnErr-from (Ok x) p = tt
OnErr-from (Err e) p = p
