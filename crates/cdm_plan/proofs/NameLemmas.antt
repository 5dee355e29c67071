-- The runways by name.
use Rattle.std.proofs.lemmas.Grind.{common_steps}
use Rattle.std.proofs.Common.{◌≡◌, ℕ, ◌+◌, ◌≤◌, Bool, true, false, cond, List, ◌∷◌, ◌++◌, length, take, drop, map, Option, None, Some, refl}
use Rattle.std.proofs.{Common.{sym, ap, ◌∙◌, subst, true≢false, zero, suc, add-one, ◌<◌, get_or, arith, rules, []}, lemmas.List.get_or-map}
use Rattle.cdm_plan.proofs.ListWords.{is_some, slice_get, if◌then◌else◌, option_map, is_lt, Contains, cons_option, find, IsDistinct}
use Rattle.cdm_plan.proofs.ListWords.{IsPermutation, same_text, false_from_ne_true, length-map, take_all, list_any_at, Contains-permutation}
use Rattle.cdm_plan.proofs.ListWords.{IsPermutation-refl, IsPermutation-sym, IsPermutation-trans, IsPermutation-append_right}
use Rattle.cdm_plan.proofs.ListWords.{IsPermutation-map, IsPermutation-middle, IsSortedBy, length_permutation, nat_list_cmp_total, ranks_by}
use Rattle.cdm_plan.proofs.ListWords.{IsDistinct-IsPermutation, contains_head, contains_tail, list_any-find, one_of_key}
use Rattle.cdm_plan.proofs.PlanWords.{RunwayRow, Update, no_spacing, same_name, name_cmp, AirportRows, runway_row, RunwayRules, same_flips}
use Rattle.cdm_plan.proofs.PlanWords.{IsAirport, runway_names, rules_of, AreByName, DayRecord, IsRunwayAt, day_rules, is_same, tied_names}
use Rattle.cdm_flight.proofs.Lists.{sorted_rest}
use Rattle.cdm_sequence.proofs.OneLemmas.{one_order}

-- What `find` finds.

pub find_some : {X : Type 0} (p : X → Bool) (xs : List X) (x : X) → find p xs ≡ Some x → Contains xs x × (p x ≡ true)
find_some p [] x h = cc
find_some {X} p (y ∷ ys) x h = by (find_some p ys x) (p y) refl h
  where
    by : (find p ys ≡ Some x → Contains ys x × (p x ≡ true)) → (b : Bool) → p y ≡ b → cond b (Some y) (find p ys) ≡ Some x → Contains (y ∷ ys) x × (p x ≡ true)
    by rest true e k = let same : y ≡ x = cc in subst (λ (z : X). Contains (y ∷ ys) z × (p z ≡ true)) same (contains_head y ys, e)
    by rest false e k = let later = rest k in (contains_tail y ys x later.0, later.1)

pub find_none : {X : Type 0} (p : X → Bool) (xs : List X) → find p xs ≡ None → (x : X) → Contains xs x → p x ≡ false
find_none p xs h x i = false_from_ne_true (p x) (λ e. true≢false (sym (list_any_at p xs i.0 x i.1 (ap p i.2 ∙ e)) ∙ (list_any-find p xs ∙ ap is_some h)))

-- it finds what alone passes
pub find_only : {X : Type 0} (p : X → Bool) (xs : List X) (x : X) → Contains xs x → p x ≡ true → ((y : X) → Contains xs y → p y ≡ true → y ≡ x)
    → find p xs ≡ Some x
find_only {X} p xs x i h one = by (find p xs) refl
  where
    by : (o : Option X) → find p xs ≡ o → o ≡ Some x
    by None e = absurd (true≢false (sym h ∙ find_none p xs e x i))
    by (Some y) e = let there = find_some p xs y e in ap Some (one y there.0 there.1)

-- in another order it finds the same, where it can find only one
find-permutation : {X : Type 0} (p : X → Bool) (xs ys : List X) → IsPermutation xs ys
    → ((x y : X) → Contains xs x → Contains xs y → p x ≡ true → p y ≡ true → x ≡ y) → find p ys ≡ find p xs
find-permutation {X} p xs ys same one = by (find p xs) refl
  where
    back : (y : X) → Contains ys y → Contains xs y
    back y = Contains-permutation ys xs y (IsPermutation-sym xs ys same)

    none : (o : Option X) → find p ys ≡ o → find p xs ≡ None → o ≡ None
    none None h k = refl
    none (Some y) h k = let there = find_some p ys y h in absurd (true≢false (sym there.1 ∙ find_none p xs k y (back y there.0)))

    by : (q : Option X) → find p xs ≡ q → find p ys ≡ q
    by None k = none (find p ys) refl k
    by (Some x) k =
        let there = find_some p xs x k in find_only p ys x (Contains-permutation xs ys x same there.0) there.1 (λ y i h. one y x (back y i) there.0 h there.1)

-- rows of one name are one
pub one_row : (rows : List RunwayRow) → IsDistinct same_name (map (λ row. row.name) rows) → (r : List ℕ) (x y : RunwayRow) → Contains rows x
    → Contains rows y → same_name x.name r ≡ true → same_name y.name r ≡ true → x ≡ y
one_row rows own r x y i j h k =
    let same = subst (λ (n : List ℕ). same_name x.name n ≡ true) (sym (same_text y.name r (sym k))) h in
    one_of_key same_name same_flips (λ (row : RunwayRow). row.name) rows x y own i j same

-- Rows by name: there is an order by name, since this is one.

put_by_name : RunwayRow → List RunwayRow → List RunwayRow
put_by_name x [] = x ∷ []
put_by_name x (y ∷ ys) = if is_lt (name_cmp x.name y.name) then x ∷ y ∷ ys else y ∷ put_by_name x ys

pub rows_by_name : List RunwayRow → List RunwayRow
rows_by_name [] = []
rows_by_name (x ∷ xs) = put_by_name x (rows_by_name xs)

abbrev pub rules_in : AirportRows → List Update → List RunwayRules
rules_in g a = map (rules_of g a) (rows_by_name g.runways)

put_permutation : (x : RunwayRow) (ys : List RunwayRow) → IsPermutation (x ∷ ys) (put_by_name x ys)
unfolding put_by_name
put_permutation x [] = IsPermutation-refl (x ∷ [])
put_permutation x (y ∷ ys) = by (is_lt (name_cmp x.name y.name)) (put_permutation x ys)
  where
    by : (b : Bool) → IsPermutation (x ∷ ys) (put_by_name x ys) → IsPermutation (x ∷ y ∷ ys) (if b then x ∷ y ∷ ys else y ∷ put_by_name x ys)
    by true h = IsPermutation-refl (x ∷ y ∷ ys)
    by false h =
        IsPermutation-trans _ (y ∷ x ∷ ys) _ (IsPermutation-sym (y ∷ x ∷ ys) (x ∷ y ∷ ys) (IsPermutation-middle (y ∷ []) x ys))
        (IsPermutation-append_right (y ∷ []) (x ∷ ys) (put_by_name x ys) h)

pub rows_permutation : (rows : List RunwayRow) → IsPermutation rows (rows_by_name rows)
unfolding rows_by_name
rows_permutation [] = IsPermutation-refl []
rows_permutation (x ∷ xs) =
    IsPermutation-trans _ _ _ (IsPermutation-append_right (x ∷ []) xs (rows_by_name xs) (rows_permutation xs)) (put_permutation x (rows_by_name xs))

abbrev is_below : RunwayRow → RunwayRow → Bool
is_below x y = is_lt (name_cmp x.name y.name)

-- one more in front of a list that rises
rise_more : (x : RunwayRow) (ys : List RunwayRow) → ((d : RunwayRow) → 0 < length ys → is_below (get_or ys 0 d) x ≡ false) → IsSortedBy is_below ys → IsSortedBy is_below (x ∷ ys)
rise_more x ys first up = search rules

-- its first is one of two
put_first : (x : RunwayRow) (ys : List RunwayRow) (y d : RunwayRow) → is_below x y ≡ false → ((d : RunwayRow) → 0 < length ys → is_below (get_or ys 0 d) y ≡ false)
    → is_below (get_or (put_by_name x ys) 0 d) y ≡ false
unfolding put_by_name
put_first x [] y d h first = h
put_first x (z ∷ zs) y d h first = by (is_below x z)
  where
    by : (b : Bool) → is_below (get_or (if b then x ∷ z ∷ zs else z ∷ put_by_name x zs) 0 d) y ≡ false
    by true = h
    by false = first d (omega arith)

put_rises : (x : RunwayRow) (ys : List RunwayRow) → IsSortedBy is_below ys → IsSortedBy is_below (put_by_name x ys)
unfolding put_by_name
put_rises x [] up = λ k d a b. absurd (omega arith)
put_rises x (y ∷ ys) up = by (is_below x y) refl (put_rises x ys (sorted_rest is_below y ys up))
  where
    by : (b : Bool) → is_below x y ≡ b → IsSortedBy is_below (put_by_name x ys) → IsSortedBy is_below (if b then x ∷ y ∷ ys else y ∷ put_by_name x ys)
    by true e rest = rise_more x (y ∷ ys) (λ d l. (ranks_by nat_list_cmp_total (λ (r : RunwayRow). r.name)).one_way x y e) up
    by false e rest = rise_more y (put_by_name x ys) (λ d l. put_first x ys y d e (λ d l. up 0 d (omega arith) (omega arith))) rest

rows_rise : (rows : List RunwayRow) → IsSortedBy is_below (rows_by_name rows)
unfolding rows_by_name
rows_rise [] = λ k d a b. absurd (omega arith)
rows_rise (x ∷ xs) = put_rises x (rows_by_name xs) (rows_rise xs)

find-map : (g : AirportRows) (a : List Update) (r : List ℕ) (rows : List RunwayRow)
    → find (λ x. same_name x.name r) (map (rules_of g a) rows) ≡ option_map (rules_of g a) (find (λ row. same_name row.name r) rows)
unfolding rules_of
find-map g a r [] = refl
find-map g a r (row ∷ rows) = grind (arith, common_steps, find-map g a r rows)

pub runway-names : (g : AirportRows) (a : List Update) (rows : List RunwayRow)
    → map (λ (r : RunwayRules). r.name) (map (rules_of g a) rows) ≡ map (λ row. row.name) rows
unfolding rules_of
runway-names g a [] = refl
runway-names g a (row ∷ rows) = ap (λ (ns : List (List ℕ)). row.name ∷ ns) (runway-names g a rows)

-- the runway of a name
pub find-rules : (g : AirportRows) (a : List Update) (r : List ℕ) → IsAirport g
    → find (λ x. same_name x.name r) (rules_in g a) ≡ option_map (rules_of g a) (runway_row g r)
find-rules g a r airport = search (rules, find-map, rows_by_name, find-permutation, rows_permutation, one_row)

-- their names differ
pub day_rules_differ : (d : DayRecord) → IsDistinct same_name (runway_names d.airport) → IsDistinct same_name (map (λ r. r.name) (day_rules d))
day_rules_differ d own = rw (runway-names d.airport d.journal d.airport.runways) own

pub by_name_differ : (d : DayRecord) (rs : List RunwayRules) → IsAirport d.airport → AreByName d rs → IsDistinct same_name (map (λ r. r.name) rs)
by_name_differ d rs airport is = search (rules, IsDistinct-IsPermutation, same_flips, IsPermutation-map, day_rules_differ)

pub length-by_name : (d : DayRecord) (rs : List RunwayRules) → AreByName d rs → length rs ≡ length d.airport.runways
length-by_name d rs is = length_permutation (day_rules d) rs is.all ∙ length-map d.airport.runways (rules_of d.airport d.journal)

-- The order of runways by name.

-- a list whose elements differ by name has one order by name
pub by_name : {X : Type 0} (name : X → List ℕ) (all xs ys : List X) → IsDistinct same_name (map name all) → IsPermutation all xs → IsPermutation all ys
    → IsSortedBy (λ a b. is_lt (name_cmp (name a) (name b))) xs → IsSortedBy (λ a b. is_lt (name_cmp (name a) (name b))) ys → xs ≡ ys
by_name name all xs ys own =
    one_order nat_list_cmp_total name all xs ys
    (λ a b i j tied. one_of_key same_name same_flips name all a b own i j (is_same (name a) (name b) (tied_names (name a) (name b) tied)))

pub rules_by_name : (d : DayRecord) → AreByName d (rules_in d.airport d.journal)
unfolding rules_of
rules_by_name d =
    let g = d.airport in
    let rows = rows_by_name g.runways in
    let f : RunwayRow → RunwayRules = rules_of g d.journal in
    record {
      all = IsPermutation-map f g.runways rows (rows_permutation g.runways);
      by_name = λ k e a b.
          let short : k + 1 < length rows = omega (arith, length-map rows f) in
          let row : RunwayRow = record { name = []; cell = 0; cap = 0; spacing = no_spacing } in
          rw (get_or-map f rows (k + 1) row e short, get_or-map f rows k row e (omega arith)) (rows_rise g.runways k row (omega arith) short);
    }

-- the runways by name are these
pub in_order : (d : DayRecord) (rs : List RunwayRules) → IsAirport d.airport → AreByName d rs → rs ≡ rules_in d.airport d.journal
in_order d rs airport is =
    let these = rules_by_name d in
    by_name (λ (r : RunwayRules). r.name) (day_rules d) rs (rules_in d.airport d.journal) (day_rules_differ d airport.names) is.all these.all is.by_name these.by_name

pub runway_is : (d : DayRecord) (place : ℕ) (o : Option RunwayRules) → IsAirport d.airport → IsRunwayAt d place o → o ≡ slice_get (rules_in d.airport d.journal) place
runway_is d place o airport (rs, is, at) = at ∙ ap (λ l. slice_get l place) (in_order d rs airport is)

-- Lists from place to place.

next_taken : {X : Type 0} (xs : List X) (i : ℕ) → take (suc i) xs ≡ take i xs ++ cons_option (slice_get xs i) []
next_taken [] zero = refl
next_taken [] (suc i) = refl
next_taken (x ∷ xs) zero = refl
next_taken (x ∷ xs) (suc i) = ap (λ l. x ∷ l) (next_taken xs i)

pub take-next : {X : Type 0} (xs : List X) (i : ℕ) → take (i + 1) xs ≡ take i xs ++ cons_option (slice_get xs i) []
take-next xs i = rw add-one (next_taken xs i)

pub all_taken : {X : Type 0} (xs : List X) (i : ℕ) → length xs ≤ i → take i xs ≡ xs
all_taken xs i h = take_all i xs h

next_left : {X : Type 0} (xs : List X) (i : ℕ) → drop i xs ≡ cons_option (slice_get xs i) (drop (suc i) xs)
next_left [] zero = refl
next_left [] (suc i) = refl
next_left (x ∷ xs) zero = refl
next_left (x ∷ xs) (suc i) = next_left xs i

-- the search from a place on
pub find-next : {X : Type 0} (p : X → Bool) (xs : List X) (i : ℕ) (o : Option X) → slice_get xs i ≡ o
    → find p (drop i xs) ≡ find p (cons_option o (drop (i + 1) xs))
find-next p xs i o at = rw add-one (ap (find p) (next_left xs i ∙ ap (λ q. cons_option q (drop (suc i) xs)) at))
