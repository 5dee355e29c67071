-- The start-ups ahead are those of exactly the flights that start up before a minute, by TSAT and name.
use Rattle.std.proofs.Common.{◌≡◌, ◌∙◌, ℕ, zero, suc, ◌+◌, ◌<◌, ◌≤◌, ◌++◌, ◌&&◌, ◌||◌, Bool, true, false, List, [], ◌∷◌, Option, None, Some, arith, ap}
use Rattle.std.proofs.Common.{get_or, map, refl, subst, sym}
use Rattle.std.proofs.lemmas.{Bool.false≢true, Bool.Decides.nat_tests, Cmp.{nat_cmp_total, nat_list_cmp_total, on_total, then_total}, Grind.flat_map-append}
use Rattle.std.proofs.lemmas.List.{append-nil, Elements.{All-contains, Contains-get_or, filter_agree, filter_passes}, Kept.AllPairs-filter}
use Rattle.std.proofs.lemmas.List.Sorted.{IsPermutation-append_left, IsPermutation-refl, IsPermutation-sym, IsPermutation-trans, Contains-permutation, ranks_by, sorted_far}
use Rattle.std.specs.{Cmp.IsTotalOrder, List.{AllPairs, IsDistinct, range_with_len}, Option.option_map_or, Ordering.{is_lt, nat_cmp, ordering_then}}
use Rattle.std.specs.declared.cmp.Ordering.{Ordering}
use Rattle.std.specs.declared.cmp.Ordering.TheVariants.{Equal, Greater}
use Rattle.std.specs.Prelude.{Contains, IsPermutation, IsSorted, IsSortedByKey, ◌==◌, filter, flat_map, nat_lt, unwrap_or}
use Rattle.cdm_flight.proofs.Lists.{contains_all, one_of_key}
use Rattle.cdm_flight.specs.Names.{name_cmp, same_name}
use Rattle.cdm_plan.{specs.Day.{DayRecord, flights_in}, proofs.ListWords.IsDistinct-IsPermutation, proofs.PlanningLemmas.parted}
use Rattle.cdm_sequence.proofs.{OneLemmas.one_order, OrderLemmas.{is_same, last_ties, same_flips, tied_names}}
use Rattle.cdm_sequence.specs.declared.plan.Plan.{Plan}
use Rattle.cdm_row.{specs.Rows.{AreRows, KeepsRows}, specs.declared.row.Row.Row, proofs.RowLemmas.rows_keep}
use Rattle.cdm_view.proofs.RangeLemmas.{range-append}
use Rattle.cdm_shift.proofs.Rising.{pairs_append}
use Rattle.cdm_shift.specs.StartUps.{AreStarting, is_planned, start_cmp, starting, starts_at, starts_before}

-- Tests of a minute.

abbrev before : ℕ → Bool → Option ℕ → Bool
before end planned tsat = planned && option_map_or (λ m. nat_lt m end) tsat false

abbrev at : ℕ → Bool → Option ℕ → Bool
at m planned tsat = planned && option_map_or (λ n. n == m) tsat false

none_before : (p : Bool) (o : Option ℕ) → before 0 p o ≡ false
none_before false o = refl
none_before true None = refl
none_before true (Some m) = grind (arith, nat_tests)

before_next : (n : ℕ) (p : Bool) (o : Option ℕ) → before (suc n) p o ≡ (before n p o || at n p o)
before_next n false o = refl
before_next n true None = refl
before_next n true (Some m) = grind (arith, nat_tests)

before_or_at : (n : ℕ) (p : Bool) (o : Option ℕ) → before n p o ≡ true → at n p o ≡ false
before_or_at n false o h = absurd (false≢true h)
before_or_at n true None h = refl
before_or_at n true (Some m) h = grind (arith, nat_tests)

is_before : (n : ℕ) (p : Bool) (o : Option ℕ) → before n p o ≡ true → unwrap_or o 0 < n
is_before n false o h = absurd (false≢true h)
is_before n true None h = absurd (false≢true h)
is_before n true (Some m) h = grind (arith, nat_tests)

is_at : (n : ℕ) (p : Bool) (o : Option ℕ) → at n p o ≡ true → unwrap_or o 0 ≡ n
is_at n false o h = absurd (false≢true h)
is_at n true None h = absurd (false≢true h)
is_at n true (Some m) h = grind (arith, nat_tests)

one_number_more : (n : ℕ) → range_with_len 0 (suc n) ≡ range_with_len 0 n ++ n ∷ []
one_number_more n =
    let long : suc n ≡ n + 1 = omega arith in
    let here : 0 + n ≡ n = omega arith in
    ap (range_with_len 0) long ∙ range-append 0 n 1 ∙ ap (λ k. range_with_len 0 n ++ k ∷ []) here

-- Exactly those flights.

nothing : {X : Type 0} (xs : List X) → filter (λ x. false) xs ≡ []
nothing [] = refl
nothing (x ∷ xs) = nothing xs

abbrev so_far : List Row → ℕ → List Row
so_far rows n = flat_map (λ m. filter (starts_at m) rows) (range_with_len 0 n)

one_minute_more : (rows : List Row) (n : ℕ) → so_far rows (suc n) ≡ so_far rows n ++ filter (starts_at n) rows
one_minute_more rows n =
    ap (flat_map (λ m. filter (starts_at m) rows)) (one_number_more n)
    ∙ flat_map-append (λ m. filter (starts_at m) rows) (range_with_len 0 n) (n ∷ [])
    ∙ ap (λ xs. so_far rows n ++ xs) (append-nil (filter (starts_at n) rows))

those : (rows : List Row) (n : ℕ) → IsPermutation (filter (starts_before n) rows) (so_far rows n)
those rows zero =
    subst (λ xs. IsPermutation xs []) (sym (filter_agree (starts_before 0) (λ r. false) (λ r. none_before (is_planned r.status) r.tsat) rows ∙ nothing rows)) (IsPermutation-refl [])
those rows (suc n) =
    let either : filter (starts_before (suc n)) rows ≡ filter (λ r. starts_before n r || starts_at n r) rows =
    filter_agree (starts_before (suc n)) (λ r. starts_before n r || starts_at n r) (λ r. before_next n (is_planned r.status) r.tsat) rows in
    let parts = parted (starts_before n) (starts_at n) (λ r. before_or_at n (is_planned r.status) r.tsat) rows in
    let more = IsPermutation-append_left (filter (starts_at n) rows) (filter (starts_before n) rows) (so_far rows n) (those rows n) in
    subst (λ xs. IsPermutation xs (so_far rows (suc n))) (sym either)
    (subst (λ ys. IsPermutation (filter (λ r. starts_before n r || starts_at n r) rows) ys) (sym (one_minute_more rows n)) (IsPermutation-trans _ _ _ parts more))

-- Their order.

-- the second doesn't come before the first
abbrev InOrder : Row → Row → Type 0
InOrder a b = is_lt (start_cmp b a) ≡ false

greater : (m n : ℕ) → m < n → nat_cmp n m ≡ Greater
greater m n less = grind (arith, nat_tests)

equal : (m n : ℕ) → m ≡ n → nat_cmp n m ≡ Equal
equal m n same = grind (arith, nat_tests)

later_minute : (a b : Row) → unwrap_or a.tsat 0 < unwrap_or b.tsat 0 → InOrder a b
later_minute a b less =
    ap (λ (o : Ordering). is_lt (ordering_then o (name_cmp b.flight a.flight))) (greater (unwrap_or a.tsat 0) (unwrap_or b.tsat 0) less)

same_minute : (a b : Row) → unwrap_or a.tsat 0 ≡ unwrap_or b.tsat 0 → is_lt (name_cmp b.flight a.flight) ≡ false → InOrder a b
same_minute a b same order =
    ap (λ (o : Ordering). is_lt (ordering_then o (name_cmp b.flight a.flight))) (equal (unwrap_or a.tsat 0) (unwrap_or b.tsat 0) same) ∙ order

module _ (rows : List Row) (by_name : IsSortedByKey (λ row. row.flight) name_cmp rows) where
  abbrev ByName : Row → Row → Type 0
  ByName a b = is_lt (name_cmp b.flight a.flight) ≡ false

  names : AllPairs ByName rows
  names = λ i j d below within.
      sorted_far (λ a b. is_lt (name_cmp a.flight b.flight)) (ranks_by nat_list_cmp_total (λ (r : Row). r.flight)) rows by_name i j d (omega (arith, below)) within

  -- those of one minute
  of_minute : (n : ℕ) (r : Row) → Contains (filter (starts_at n) rows) r → unwrap_or r.tsat 0 ≡ n
  of_minute n r i = is_at n (is_planned r.status) r.tsat (All-contains (λ r. starts_at n r ≡ true) (filter (starts_at n) rows) r (filter_passes (starts_at n) rows) i)

  of_before : (n : ℕ) (r : Row) → Contains (so_far rows n) r → unwrap_or r.tsat 0 < n
  of_before n r i =
      let back = Contains-permutation (so_far rows n) (filter (starts_before n) rows) r (IsPermutation-sym _ _ (those rows n)) i in
      is_before n (is_planned r.status) r.tsat (All-contains (λ r. starts_before n r ≡ true) (filter (starts_before n) rows) r (filter_passes (starts_before n) rows) back)

  minute_in_order : (n : ℕ) → AllPairs InOrder (filter (starts_at n) rows)
  minute_in_order n = λ i j d below within.
      let xs = filter (starts_at n) rows in
      let first = of_minute n (get_or xs i d) (Contains-get_or xs i d (omega (arith, below, within))) in
      let second = of_minute n (get_or xs j d) (Contains-get_or xs j d within) in
      same_minute (get_or xs i d) (get_or xs j d) (first ∙ sym second) (AllPairs-filter ByName (starts_at n) rows names i j d below within)

  all_in_order : (n : ℕ) → AllPairs InOrder (so_far rows n)
  all_in_order zero = λ i j d below within. absurd (omega (arith, within))
  all_in_order (suc n) =
      let xs = filter (starts_at n) rows in
      subst (λ (l : List Row). AllPairs InOrder l) (sym (one_minute_more rows n))
      (pairs_append InOrder (so_far rows n) xs (all_in_order n) (minute_in_order n) (λ a i k d within.
      let earlier = of_before n a i in
      let here = of_minute n (get_or xs k d) (Contains-get_or xs k d within) in
      later_minute a (get_or xs k d) (omega (arith, earlier, here))))

-- The Rows of a day.

keeps : (d : DayRecord) (plan : Plan) (rows : List Row) → IsDistinct same_name (flights_in d.journal) → AreRows d plan rows → KeepsRows rows
keeps d plan rows own are =
    subst (λ (l : List Row). KeepsRows l) (sym are.told) (rows_keep d plan are.standings are.stand (record {
      by_name = are.stand.by_name;
      apart = IsDistinct-IsPermutation same_name same_flips _ _ are.stand.each own;
    }))

pub starting_is : (d : DayRecord) (plan : Plan) (rows : List Row) (end : ℕ) → IsDistinct same_name (flights_in d.journal) → AreRows d plan rows
    → AreStarting rows end (starting rows end)
unfolding starting
starting_is d plan rows end own are =
    record { those = those rows end; in_order = λ k row from within. all_in_order rows (keeps d plan rows own are).by_name end k (k + 1) row (omega arith) within }

start_total : IsTotalOrder start_cmp
start_total = then_total (on_total (λ (r : Row). unwrap_or r.tsat 0) nat_cmp_total) (on_total (λ (r : Row). r.flight) nat_list_cmp_total)

-- no other list is so
pub starting_one : (d : DayRecord) (plan : Plan) (rows : List Row) (end : ℕ) (xs ys : List Row) → IsDistinct same_name (flights_in d.journal) → AreRows d plan rows
    → AreStarting rows end xs → AreStarting rows end ys → xs ≡ ys
starting_one d plan rows end xs ys own are a b =
    one_order start_total (λ (r : Row). r) (filter (starts_before end) rows) xs ys
    (λ r s i j tied. one_of_key same_name same_flips (λ (r : Row). r.flight) rows r s (keeps d plan rows own are).apart
    (contains_all (starts_before end) rows r i) (contains_all (starts_before end) rows s j)
    (is_same r.flight s.flight (tied_names r.flight s.flight (last_ties (nat_cmp (unwrap_or r.tsat 0) (unwrap_or s.tsat 0)) (name_cmp r.flight s.flight) tied))))
    a.those b.those a.in_order b.in_order
