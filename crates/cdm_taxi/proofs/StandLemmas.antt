-- Which stands have rows, and how many.
use Rattle.std.proofs.Common.{◌≡◌, ℕ, ◌+◌, Bool, true, false, cond, not, ◌||◌, List, [], ◌∷◌, length, map, refl, sym, ap, subst, ◌∙◌, arith}
use Rattle.std.proofs.lemmas.{Bool.{cond_both, not-false, or_left, or_parts}, List.nil_from_length, Map.Keys.IsDistinct-from_sorted}
use Rattle.std.proofs.lemmas.Map.{Made.length-from_keys, Steps.list_any_congr, Views.tells_apart}
use Rattle.std.specs.{Prelude.{Option, None, Some, if◌then◌else◌}, BTreeMap.is_at, BTreeSet.{BTreeSet, IsOrdered, contains}}
use Rattle.std.specs.{declared.cmp.Ordering.Ordering, declared.cmp.Ordering.TheVariants.{Less, Equal, Greater}, Ordering.eq_by_cmp}
use Rattle.std.specs.Cmp.{IsEquivalence, Lexicographic.{nat_list_eq_equiv, texts_ties}}
use Rattle.std.specs.FinMap.{IsAntisymmetric, keys, entries-insert, get-insert, same_map, Entries.{put, by_order}}
use Rattle.std.specs.{List.{list_any, filter_map, cons_option, AllByRecursion, IsDistinct}, Option.option_map_or}
use Rattle.std.specs.Set.{distinct_count, is_member, unique_keys}
use Rattle.std.specs.FinMap as map
use Rattle.cdm_flight.specs.{declared.place.Place.Place, Names.{name_cmp, same_name}}
use Rattle.cdm_flight.specs.Taxi.{TaxiRows, is_new_stand, stand_of_place, stands_in, taxi_cmp}
use Rattle.cdm_flight.specs.declared.place.Place.TheVariants as place
use Rattle.cdm_taxi.specs.{Stands.{has_row, stand_count}, inner.StandSet.AreStandsOf}
use Rattle.cdm_taxi.proofs.TaxiLemmas.{same_name-ties, taxi_cmp_total, taxi_cmp_same}

or_swap : (a b c : Bool) → (a || (b || c)) ≡ (b || (a || c))
or_swap a b c = grind arith

or_again : (a b : Bool) → (a || b) ≡ (a || (a || b))
or_again a b = grind arith

-- Lists whose items are each counted once.
module _ {K : Type 0} {eq : K → K → Bool} (laws : IsEquivalence eq) where
  none_equal : (x : K) (xs : List K) → is_member eq xs x ≡ false → AllByRecursion (λ y. eq x y ≡ false) xs
  none_equal x [] h = tt
  none_equal x (y ∷ ys) h = let parts = or_parts (eq x y) (is_member eq ys x) h in (parts.0, none_equal x ys parts.1)

  -- an item that stands behind is counted there
  pub counted_behind : (xs : List K) (x q : K) → is_member eq xs x ≡ true → is_member eq xs q ≡ (eq q x || is_member eq xs q)
  counted_behind xs x q there = let congr = list_any_congr laws q x xs in grind (arith, congr, there)

  unique_has : (xs : List K) (q : K) → is_member eq (unique_keys eq xs) q ≡ is_member eq xs q
  unique_has [] q = refl
  unique_has (x ∷ xs) q =
      cond_both (is_member eq xs x) (unique_keys eq xs) (x ∷ unique_keys eq xs) (λ ks. is_member eq ks q ≡ (eq q x || is_member eq xs q))
      (λ there. unique_has xs q ∙ counted_behind xs x q there) (λ apart. ap (λ b. eq q x || b) (unique_has xs q))

  unique_once : (xs : List K) → IsDistinct eq (unique_keys eq xs)
  unfolding IsDistinct
  unique_once [] = tt
  unique_once (x ∷ xs) =
      cond_both (is_member eq xs x) (unique_keys eq xs) (x ∷ unique_keys eq xs) (IsDistinct eq) (λ there. unique_once xs)
      (λ apart. (none_equal x (unique_keys eq xs) (unique_has xs x ∙ apart), unique_once xs))

  -- lists of the same items have as many, each counted once
  pub distinct_count-same : (xs ys : List K) → ((q : K) → is_member eq xs q ≡ is_member eq ys q) → distinct_count eq xs ≡ distinct_count eq ys
  distinct_count-same xs ys same = length-from_keys laws (unique_keys eq xs) ys (unique_once xs) (λ q. unique_has xs q ∙ same q)

-- a test passes one of the keys after an entry was put
any_key-put : {K X : Type 0} {R : K → K → Ordering} (same : IsAntisymmetric R) (test : K → Bool) (k : K) (v : X) (es : List (K × X))
    → list_any test (map (λ e. e.0) (put R k v es)) ≡ (test k || list_any test (map (λ e. e.0) es))
any_key-put same test k v [] = refl
any_key-put {R = R} same test k v (e ∷ es) = by (R k e.0) refl (any_key-put same test k v es)
  where
    by : (o : Ordering) → R k e.0 ≡ o → list_any test (map (λ e. e.0) (put R k v es)) ≡ (test k || list_any test (map (λ e. e.0) es))
        → list_any test (map (λ e. e.0) (by_order o ((k, v) ∷ e ∷ es) ((e.0, v) ∷ es) (e ∷ put R k v es)))
        ≡ (test k || (test e.0 || list_any test (map (λ e. e.0) es)))
    by Less p before = refl
    by Equal p before = rw (same k e.0 p) (or_again (test e.0) (list_any test (map (λ e. e.0) es)))
    by Greater p before = ap (λ b. test e.0 || b) before ∙ or_swap (test e.0) (test k) (list_any test (map (λ e. e.0) es))

list_any-cons_option : {X : Type 0} (test : X → Bool) (o : Option X) (xs : List X)
    → list_any test (cons_option o xs) ≡ (option_map_or test o false || list_any test xs)
list_any-cons_option test o xs = grind arith

list_any-filter_map : {X Y : Type 0} (test : Y → Bool) (f : X → Option Y) (xs : List X)
    → list_any test (filter_map f xs) ≡ list_any (λ x. option_map_or test (f x) false) xs
list_any-filter_map test f [] = refl
list_any-filter_map test f (x ∷ xs) =
    list_any-cons_option test (f x) (filter_map f xs) ∙ ap (λ b. option_map_or test (f x) false || b) (list_any-filter_map test f xs)

-- the stand is the place's
abbrev pub is_stand_of : List ℕ → Place → Bool
is_stand_of stand p = option_map_or (same_name stand) (stand_of_place p) false

-- a stand has a row where one of the keys is its
has_row-keys : (rows : TaxiRows) (stand : List ℕ) → has_row rows stand ≡ list_any (λ key. is_stand_of stand key.0) (keys rows)
has_row-keys rows stand = list_any-filter_map (same_name stand) (λ key. stand_of_place key.0) (keys rows)

-- after a row is set its stand has a row, and so have those that had one
pub has_row-insert : (rows : TaxiRows) (p : Place) (r : List ℕ) (minutes : ℕ) (stand : List ℕ)
    → has_row (map.insert rows (p, r) minutes) stand ≡ (is_stand_of stand p || has_row rows stand)
has_row-insert rows p r minutes stand =
    has_row-keys (map.insert rows (p, r) minutes) stand
    ∙ ap (λ es. list_any (λ key. is_stand_of stand key.0) (map (λ e. e.0) es)) (entries-insert taxi_cmp_total rows (p, r) minutes)
    ∙ any_key-put taxi_cmp_same (λ key. is_stand_of stand key.0) (p, r) minutes (map.entries rows)
    ∙ ap (λ b. is_stand_of stand p || b) (sym (has_row-keys rows stand))

entries-empty : map.entries (map.empty {X = ℕ} {R = taxi_cmp}) ≡ []
entries-empty = nil_from_length _ (sym (map.len-entries (map.empty {X = ℕ} {R = taxi_cmp})) ∙ map.len-empty taxi_cmp ℕ)

-- no stand has a row in an empty table
pub stand_count-empty : stand_count map.empty ≡ 0
stand_count-empty = ap (λ es. distinct_count same_name (filter_map (λ (key : Place × List ℕ). stand_of_place key.0) (map (λ e. e.0) es))) entries-empty

pub has_row-empty : (stand : List ℕ) → has_row map.empty stand ≡ false
has_row-empty stand = ap (λ es. list_any (same_name stand) (filter_map (λ (key : Place × List ℕ). stand_of_place key.0) (map (λ e. e.0) es))) entries-empty

counted : (b : Bool) (stand : List ℕ) (stands : List (List ℕ))
    → length (if b then stands else stand ∷ stands) ≡ (if not b then length stands + 1 else length stands)
counted b stand stands = grind arith

-- a row adds its stand, unless it is a default or the stand had one
pub stand_count-insert : (rows : TaxiRows) (p : Place) (r : List ℕ) (minutes : ℕ)
    → stand_count (map.insert rows (p, r) minutes) ≡ (if is_new_stand (stands_in rows) p then stand_count rows + 1 else stand_count rows)
stand_count-insert rows place.Default r minutes =
    distinct_count-same nat_list_eq_equiv _ (stands_in rows) (has_row-insert rows place.Default r minutes)
stand_count-insert rows (place.Stand stand) r minutes =
    distinct_count-same nat_list_eq_equiv _ (stand ∷ stands_in rows) (has_row-insert rows (place.Stand stand) r minutes)
    ∙ counted (has_row rows stand) stand (unique_keys same_name (stands_in rows))

same_ties : same_name ≡ eq_by_cmp name_cmp
same_ties = λ i s t. texts_ties s t i

-- the set has as many names as stands have rows
pub length-stands : (rows : TaxiRows) (stands : BTreeSet (List ℕ)) → AreStandsOf rows stands → IsOrdered name_cmp stands
    → length stands.keys ≡ stand_count rows
length-stands rows stands are ordered =
    length-from_keys nat_list_eq_equiv stands.keys (stands_in rows)
    (subst (λ eq. IsDistinct eq stands.keys) (sym same_ties) (IsDistinct-from_sorted name_cmp stands.keys ordered))
    (λ q. (λ i. is_member (same_ties i) stands.keys q) ∙ are q)

-- a row of a default, or of a stand that has a row, adds no stand
pub are_stands_of-insert_old : (rows : TaxiRows) (stands : BTreeSet (List ℕ)) (p : Place) (r : List ℕ) (minutes : ℕ)
    → AreStandsOf rows stands → is_new_stand (stands_in rows) p ≡ false → AreStandsOf (map.insert rows (p, r) minutes) stands
are_stands_of-insert_old rows stands place.Default r minutes old is_old = λ q.
    old q ∙ sym (has_row-insert rows place.Default r minutes q)
are_stands_of-insert_old rows stands (place.Stand s) r minutes old is_old = λ q.
    old q ∙ counted_behind nat_list_eq_equiv (stands_in rows) s q (not-false _ is_old) ∙ sym (has_row-insert rows (place.Stand s) r minutes q)

-- a row of a stand adds it
pub are_stands_of-insert_new : (rows : TaxiRows) (stands new : BTreeSet (List ℕ)) (s r : List ℕ) (minutes : ℕ)
    → AreStandsOf rows stands → ((q : List ℕ) → contains name_cmp new q ≡ cond (is_at (name_cmp s) q) true (contains name_cmp stands q))
    → AreStandsOf (map.insert rows (place.Stand s, r) minutes) new
are_stands_of-insert_new rows stands new s r minutes old added = λ q.
    let set = has_row-insert rows (place.Stand s) r minutes q in
    grind (arith, added q, old q, same_name-ties q s, set)

-- a stand that was added and is taken back leaves those that were there
pub are_stands_of-taken_back : (rows : TaxiRows) (stands new back : BTreeSet (List ℕ)) (s : List ℕ) → AreStandsOf rows stands → has_row rows s ≡ false
    → ((q : List ℕ) → contains name_cmp new q ≡ cond (is_at (name_cmp s) q) true (contains name_cmp stands q))
    → ((q : List ℕ) → contains name_cmp back q ≡ cond (is_at (name_cmp s) q) false (contains name_cmp new q)) → AreStandsOf rows back
are_stands_of-taken_back rows stands new back s old is_new added removed = λ q.
    let alike = list_any_congr nat_list_eq_equiv q s (stands_in rows) in
    grind (arith, removed q, added q, old q, same_name-ties q s, alike, is_new)

-- a row that is set again as it is changes nothing
insert_again : (rows : TaxiRows) (k : Place × List ℕ) (minutes : ℕ) → map.get rows k ≡ Some minutes → map.insert rows k minutes ≡ rows
insert_again rows k minutes is = same_map taxi_cmp_total taxi_cmp_same (map.insert rows k minutes) rows (λ q.
    let tied = λ (t : eq_by_cmp taxi_cmp q k ≡ true). ap (λ x. map.get rows x) (tells_apart taxi_cmp_same q k t) in
    grind (arith, get-insert taxi_cmp_total rows k minutes q, tied, is))

-- a stand without a row has none for any runway
pub no_row_of_stand : (rows : TaxiRows) (s r : List ℕ) → has_row rows s ≡ false → map.get rows (place.Stand s, r) ≡ None
no_row_of_stand rows s r is_new = by (map.get rows (place.Stand s, r)) refl
  where
    by : (o : Option ℕ) → map.get rows (place.Stand s, r) ≡ o → o ≡ None
    by None e = refl
    by (Some minutes) e =
        let has =
        ap (λ (t : TaxiRows). has_row t s) (sym (insert_again rows (place.Stand s, r) minutes e))
        ∙ has_row-insert rows (place.Stand s) r minutes s ∙ or_left _ _ (nat_list_eq_equiv.refl s) in
        cc
