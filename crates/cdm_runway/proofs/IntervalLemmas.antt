-- Intervals in order, and the values of their places.
use Rattle.cdm_runway.proofs.Words.{◌≡◌, ℕ, zero, suc, ◌+◌, ◌<◌, ◌≤◌, min, max, List, [], ◌∷◌, ◌++◌, length, take, replicate, get_or, refl}
use Rattle.cdm_runway.proofs.Words.{rules, sym, arith, if◌then◌else◌, nat_tests, get_or-replicate, length-replicate, get_or_past}
use Rattle.cdm_runway.proofs.{Words.window_has, RangeLemmas.{get_or-with_range, length-with_range}}
use Rattle.cdm_runway.specs.declared.intervals.Interval.{Interval}
use Rattle.cdm_runway.specs.{inner.Intervals.{value_at, values_of, AreInOrder, end_of, IsPushed, NoneAfter, IsNext}, Rules.with_range}
use Rattle.std.proofs.lemmas.List.{take_more, same_lists, FromFn.{get_or-map-range_with_len, length-map-range_with_len}}

module _ {V : Type 0} where
  value_at-push : (xs : List (Interval V)) (x : Interval V) (k : ℕ) (rest : V)
      → value_at (xs ++ x ∷ []) k rest ≡ (if window_has x.from x.to k then x.value else value_at xs k rest)
  value_at-push [] x k rest = refl
  value_at-push (y ∷ ys) x k rest = value_at-push ys x k (if window_has y.from y.to k then y.value else rest)

  end_of-push : (end : ℕ) (xs : List (Interval V)) (x : Interval V) → end_of end (xs ++ x ∷ []) ≡ x.to
  end_of-push end [] x = refl
  end_of-push end (y ∷ ys) x = end_of-push y.to ys x

  in_order-push : (end : ℕ) (xs : List (Interval V)) (x : Interval V) → AreInOrder end xs → end_of end xs ≤ x.from → x.from < x.to
      → AreInOrder end (xs ++ x ∷ [])
  in_order-push end [] x order after some = (after, some, tt)
  in_order-push end (y ∷ ys) x order after some = (order.0, order.1, in_order-push y.to ys x order.2 after some)

  in_order-front : (end : ℕ) (xs : List (Interval V)) (x : Interval V) → AreInOrder end (xs ++ x ∷ [])
      → AreInOrder end xs × (end_of end xs ≤ x.from) × (x.from < x.to)
  in_order-front end [] x order = (tt, order.0, order.1)
  in_order-front end (y ∷ ys) x order = search (rules, in_order-front y.to ys x order.2)

  end_of-grows : (end : ℕ) (xs : List (Interval V)) → AreInOrder end xs → end ≤ end_of end xs
  end_of-grows end [] order = omega arith
  end_of-grows end (x ∷ xs) order = omega (arith, end_of-grows x.to xs order.2, order.0, order.1)

  -- places after all intervals, or before them, have the value of the rest
  value_at-after : (end : ℕ) (xs : List (Interval V)) (k : ℕ) (rest : V) → AreInOrder end xs → end_of end xs ≤ k → value_at xs k rest ≡ rest
  value_at-after end [] k rest order after = refl
  value_at-after end (x ∷ xs) k rest order after = search (rules, end_of-grows, value_at-after x.to xs k rest order.2 after)

  value_at-before : (end : ℕ) (xs : List (Interval V)) (k : ℕ) (rest : V) → AreInOrder end xs → k < end → value_at xs k rest ≡ rest
  value_at-before end [] k rest order before = refl
  value_at-before end (x ∷ xs) k rest order before = search (rules, value_at-before x.to xs k rest order.2 (omega (arith, order.0, order.1)))

  -- an interval that is put behind the others
  pub pushed : (xs : List (Interval V)) (x : Interval V) → AreInOrder 0 xs → end_of 0 xs ≤ x.from → x.from < x.to → IsPushed xs x (xs ++ x ∷ [])
  pushed xs x order after some = search (rules, in_order-push, end_of-push, value_at-push)

  -- one that becomes one with the last of them
  pub joined : (xs : List (Interval V)) (last x : Interval V) → AreInOrder 0 (xs ++ last ∷ []) → x.from < x.to → last.to ≡ x.from → last.value ≡ x.value
      → IsPushed (xs ++ last ∷ []) x (xs ++ record last { to = x.to } ∷ [])
  joined xs last x order some touch same = search (rules, in_order-front, in_order-push, end_of-push, value_at-push)

  -- what the intervals so far say of the places from one up to another, behind older ones
  pub record IsCut (from to : ℕ) (old xs kept : List (Interval V)) : Type 0 where
    pub order : AreInOrder 0 kept
    pub end : end_of 0 kept ≤ to
    pub behind : end_of 0 kept ≤ max from (end_of 0 xs)
    pub values : (k : ℕ) (rest : V) → value_at kept k rest ≡ (if window_has from to k then value_at xs k rest else value_at old k rest)

  pub cut_none : (from to : ℕ) (old : List (Interval V)) → AreInOrder 0 old → end_of 0 old ≤ from → from ≤ to → IsCut from to old [] old
  cut_none from to old order end places = search (rules, value_at-after)

  -- an interval is in order behind those that were read before it
  in_order_read : (end : ℕ) (xs : List (Interval V)) (i : ℕ) (x : Interval V) → AreInOrder end xs → i < length xs → x ≡ get_or xs i x
      → AreInOrder end (take i xs ++ x ∷ [])
  in_order_read end [] i x order within read = absurd (omega arith)
  in_order_read end (y ∷ ys) zero x order within read = rw read (order.0, order.1, tt)
  in_order_read end (y ∷ ys) (suc i) x order within read = (order.0, order.1, in_order_read y.to ys i x order.2 (omega arith) read)

  module _ (from to : ℕ) (old xs : List (Interval V)) (i : ℕ) (kept : List (Interval V)) (x : Interval V) (order : AreInOrder 0 xs)
      (within : i < length xs) (read : x ≡ get_or xs i x) (so_far : IsCut from to old (take i xs) kept) where
    pub cut_asks : end_of 0 kept ≤ max x.from from
    cut_asks = let front = in_order-front 0 (take i xs) x (in_order_read 0 xs i x order within read) in omega (arith, so_far.behind, front.1)

    pub cut_more : (begin end : ℕ) (new : List (Interval V)) → begin ≡ max x.from from → end ≡ min x.to to
        → IsPushed kept (record { from = begin; to = end; value = x.value }) new → IsCut from to old (take (i + 1) xs) new
    cut_more begin end new first last push =
        let front = in_order-front 0 (take i xs) x (in_order_read 0 xs i x order within read) in
        rw (take_more xs i x within, sym read) (record {
          order = push.order;
          end = omega (arith, push.end, so_far.end);
          behind = omega (arith, push.end, so_far.behind, front.1, front.2, end_of-push 0 (take i xs) x);
          values = λ k rest. grind (arith, nat_tests, push.values k rest, so_far.values k rest, value_at-push (take i xs) x k rest);
        })

  -- intervals that end before a place say nothing of it
  pub none_after : (xs : List (Interval V)) (place : ℕ) → ((j : ℕ) (d : Interval V) → j < length xs → (get_or xs j d).to ≤ place) → NoneAfter xs place
  none_after [] place ended = λ k rest after. refl
  none_after (x ∷ xs) place ended = λ k rest after.
      let later = none_after xs place (λ j d below. ended (suc j) d (omega arith)) k rest after in
      grind (arith, nat_tests, ended 0 x (omega arith))

  -- the first that ends after it
  pub first_after : (end : ℕ) (xs : List (Interval V)) (i place : ℕ) (x : Interval V) → AreInOrder end xs → i < length xs → x ≡ get_or xs i x
      → ((j : ℕ) (d : Interval V) → j < i → (get_or xs j d).to ≤ place) → place < x.to → IsNext end xs place x
  first_after end [] i place x order within read ended after = absurd (omega arith)
  first_after end (y ∷ ys) zero place x order within read ended after = search (rules, end_of-grows, value_at-before)
  first_after end (y ∷ ys) (suc i) place x order within read ended after =
      let next = first_after y.to ys i place x order.2 (omega arith) read (λ j d below. ended (suc j) d (omega arith)) after in
      record {
        after = next.after;
        within = next.within;
        some = next.some;
        values = λ k rest above below.
            let later = next.values k rest above below in
            grind (arith, nat_tests, ended 0 y (omega arith), above, later);
      }

  -- intervals in order end in order
  ends_after : (end : ℕ) (xs : List (Interval V)) (j : ℕ) (d : Interval V) → AreInOrder end xs → j < length xs → end ≤ (get_or xs j d).to
  ends_after end [] j d order within = absurd (omega arith)
  ends_after end (x ∷ xs) zero d order within = omega (arith, order.0, order.1)
  ends_after end (x ∷ xs) (suc j) d order within = omega (arith, order.0, order.1, ends_after x.to xs j d order.2 (omega arith))

  pub ends_in_order : (end : ℕ) (xs : List (Interval V)) → AreInOrder end xs → (i j : ℕ) (d : Interval V) → i ≤ j → j < length xs
      → (get_or xs i d).to ≤ (get_or xs j d).to
  ends_in_order end [] order i j d le within = absurd (omega arith)
  ends_in_order end (x ∷ xs) order zero zero d le within = omega arith
  ends_in_order end (x ∷ xs) order zero (suc j) d le within = ends_after x.to xs j d order.2 (omega arith)
  ends_in_order end (x ∷ xs) order (suc i) zero d le within = absurd (omega arith)
  ends_in_order end (x ∷ xs) order (suc i) (suc j) d le within = ends_in_order x.to xs order.2 i j d (omega arith) (omega arith)

  -- the values of places
  pub value_there : (places : ℕ) (rest : V) (xs : List (Interval V)) (k : ℕ) (d : V) → k < places → get_or (values_of places rest xs) k d ≡ value_at xs k rest
  value_there places rest xs k d below = get_or-map-range_with_len (λ n. value_at xs n rest) 0 places k k d below (omega arith)

  pub length-values_of : (places : ℕ) (rest : V) (xs : List (Interval V)) → length (values_of places rest xs) ≡ places
  length-values_of places rest xs = length-map-range_with_len (λ n. value_at xs n rest) 0 places

  -- a value that is asked for at places of which some are no places
  pub value_or_past : (places : ℕ) (rest : V) (xs : List (Interval V)) (k : ℕ) (d : V) → value_at xs k rest ≡ d → get_or (values_of places rest xs) k d ≡ d
  value_or_past places rest xs k d is = grind (arith, get_or_past {X = V}, value_there places rest xs k d, length-values_of places rest xs)

  pub values_of-none : (places : ℕ) (rest : V) → values_of places rest [] ≡ replicate places rest
  values_of-none places rest = search (rules, same_lists, length-values_of, length-replicate, value_there, get_or-replicate)

  pub values_of-with_range : (places : ℕ) (rest : V) (old new : List (Interval V)) (from to : ℕ) (value : V) → from ≤ to → to ≤ places
      → ((k : ℕ) → k < places → value_at new k rest ≡ (if window_has from to k then value else value_at old k rest))
      → values_of places rest new ≡ with_range (values_of places rest old) from to value
  values_of-with_range places rest old new from to value order within values =
      search (rules, length-values_of, same_lists, length-with_range, value_there, get_or-with_range)

  -- the value of the rest needs no interval
  pub given_as_rest : (from to k : ℕ) (value here rest : V) → value ≡ rest
      → (if window_has 0 from k then here else rest) ≡ (if window_has from to k then value else (if window_has 0 from k then here else rest))
  given_as_rest from to k value here rest same = grind (arith, nat_tests)

  -- the places before, those that are given the value, and those after
  pub in_three_parts : (from to places k : ℕ) (value here rest : V) → from < to → k < places
      → (if window_has to places k then here else (if window_has from to k then value else (if window_has 0 from k then here else rest)))
      ≡ (if window_has from to k then value else here)
  in_three_parts from to places k value here rest order below = grind (arith, nat_tests)
