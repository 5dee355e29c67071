-- Items by name that changed: those before are passed name by name.
use Rattle.std.proofs.Common.{◌≡◌, ℕ, zero, suc, ◌+◌, ◌<◌, ◌≤◌, Bool, true, false, cond, ◌||◌, List, [], ◌∷◌, ◌++◌, length, length-drop}
use Rattle.std.proofs.{Common.{get_or, drop, map, take, filter, not, Some, refl, sym, ◌∙◌, ap, add-zero, arith}, Math.Bool.or-false}
use Rattle.std.proofs.lemmas.{Bool.false_from_ne_true, Bool.false≢true, Cmp.nat_list_cmp_total, List.get_or-drop, List.get_or-take}
use Rattle.std.proofs.lemmas.{List.get_or_default, List.take-append-drop, List.Sums.prefix_len_passes, List.Sums.prefix_len_stops}
use Rattle.std.proofs.lemmas.{List.Elements.filter_more, List.Folds.length-prefix_len, List.Folds.list_any-append, List.Folds.list_any_none}
use Rattle.std.proofs.lemmas.{List.Sorted.ranks_by, List.Sorted.sorted_far, Option.get_or_from_slice_get, Option.slice_get_within}
use Rattle.std.proofs.lemmas.{Grind.common_steps}
use Rattle.std.specs.{Cmp.IsStrictWeakOrder, List.prefix_len, List.Sorted.IsSortedByKey, Option.option_map_or, Ordering.is_lt}
use Rattle.cdm_flight.proofs.Lists.{apart_from_head, sorted_rest}
use Rattle.cdm_plan.proofs.ListWords.{IsDistinct, IsDistinct-tail, contains_map, list_any, slice_get}
use Rattle.cdm_plan.proofs.PlanWords.{is_same, name_cmp, same_is, same_name, tied_names}
use Rattle.cdm_view.proofs.ListLemmas.{any_without}

-- what holds of no element that is passed holds of one of the rest, if of any
any_left : {X : Type 0} (p q : X → Bool) (xs : List X) → ((x : X) → p x ≡ true → q x ≡ false)
    → list_any q xs ≡ list_any q (drop (prefix_len p xs) xs)
any_left p q xs apart =
    let n = prefix_len p xs in
    let none : list_any q (take n xs) ≡ false = list_any_none q (take n xs) (λ k d l.
    let short : k < n = omega (arith, length-prefix_len p xs) in
    apart (get_or (take n xs) k d) (ap p (get_or-take n xs k d short) ∙ prefix_len_passes p xs k d short)) in
    ap (list_any q) (sym (take-append-drop n xs))
    ∙ (list_any-append q (take n xs) (drop n xs) ∙ ap (λ b. b || list_any q (drop n xs)) none)

-- the first that is left isn't passed
first_left : {X : Type 0} (p : X → Bool) (xs : List X) (x : X) → slice_get (drop (prefix_len p xs) xs) 0 ≡ Some x → p x ≡ false
first_left p xs x e =
    let n = prefix_len p xs in
    let within : n < length xs = omega (arith, slice_get_within (drop n xs) 0 x e, length-drop n xs) in
    let first : get_or (drop n xs) 0 x ≡ get_or xs n x = get_or-drop n xs 0 x ∙ ap (λ k. get_or xs k x) (add-zero n) in
    ap p (sym (get_or_from_slice_get (drop n xs) 0 x x e) ∙ first) ∙ prefix_len_stops p xs x within

-- names of which none comes before the other are one
tied : (m n : List ℕ) → is_lt (name_cmp m n) ≡ false → is_lt (name_cmp n m) ≡ false → m ≡ n
tied m n h k = grind (arith, tied_names m n, nat_list_cmp_total.antisymm n m)

module _ {X : Type 0} (name_of : X → List ℕ) (alike : X → X → Bool) where
  abbrev is_below : List ℕ → X → Bool
  is_below name x = is_lt (name_cmp (name_of x) name)

  -- those from the first on that doesn't come before the name
  abbrev from_name : List ℕ → List X → List X
  from_name name xs = drop (prefix_len (is_below name) xs) xs

  abbrev has : List X → X → Bool
  has xs x = list_any (λ u. alike u x) xs

  abbrev has_first : List X → X → Bool
  has_first xs x = option_map_or (λ u. alike u x) (slice_get xs 0) false

  -- by name, and each of another name
  abbrev pub AreByName : List X → Type 0
  AreByName xs = IsSortedByKey name_of name_cmp xs × IsDistinct same_name (map name_of xs)

  abbrev order : IsStrictWeakOrder (λ (a b : X). is_lt (name_cmp (name_of a) (name_of b)))
  order = ranks_by nat_list_cmp_total name_of

  -- what is left of those before has the items from a place on as all of them do
  pub record StillHas (before left items : List X) (place : ℕ) : Type 0 where
    pub keeps : AreByName left
    pub same : (j : ℕ) (x : X) → place ≤ j → j < length items → get_or items j x ≡ x → has before x ≡ has left x

  keeps_left : (n : ℕ) (xs : List X) → AreByName xs → AreByName (drop n xs)
  keeps_left zero xs keeps = keeps
  keeps_left (suc n) [] keeps = keeps
  keeps_left (suc n) (x ∷ xs) keeps = keeps_left n xs (
    sorted_rest (λ a b. is_lt (name_cmp (name_of a) (name_of b))) x xs keeps.0,
    IsDistinct-tail same_name (name_of x) (map name_of xs) keeps.1,
  )

  -- what comes before a name that a later one doesn't has another name
  others : (name : List ℕ) (x y : X) → is_below name x ≡ false → is_below name y ≡ true → same_name (name_of y) (name_of x) ≡ false
  others name x y after before = grind (arith, same_is (name_of y) (name_of x))

  -- after a first that doesn't come before a name, none has the name
  later_others : (y : X) (left : List X) (x : X) → AreByName (y ∷ left) → is_below (name_of x) y ≡ false
      → (k : ℕ) (u : X) → k < length left → get_or left k u ≡ u → same_name (name_of u) (name_of x) ≡ false
  later_others y left x keeps after k u within at = false_from_ne_true (same_name (name_of u) (name_of x)) (λ named.
      let up : is_lt (name_cmp (name_of u) (name_of y)) ≡ false =
      ap (λ z. is_lt (name_cmp (name_of z) (name_of y))) (sym at)
      ∙ sorted_far _ order (y ∷ left) keeps.0 0 (suc k) u (omega arith) (omega arith) in
      let down : is_lt (name_cmp (name_of y) (name_of u)) ≡ false =
      ap (λ n. is_lt (name_cmp (name_of y) n)) (same_is (name_of u) (name_of x) named) ∙ after in
      let there = contains_map name_of left u (k, within, at) in
      let apart = apart_from_head same_name (name_of y) (map name_of left) (name_of u) keeps.1 there in
      false≢true (sym apart ∙ is_same (name_of y) (name_of u) (tied (name_of y) (name_of u) down up)))

  -- the items that weren't there before, up to a place and with it
  pub new_next : (before items : List X) (place : ℕ) (x : X) → place < length items → get_or items place x ≡ x → (b : Bool) → has before x ≡ b
      → filter (λ t. not (has before t)) (take (place + 1) items) ≡ filter (λ t. not (has before t)) (take place items) ++ cond (not b) (x ∷ []) []
  new_next before items place x within at b e = grind (arith, common_steps, has, filter_more)

  module _ (unlike : (a b : X) → same_name (name_of a) (name_of b) ≡ false → alike a b ≡ false) where
    -- where the first doesn't come before a name, only the first can be the item of the name
    first_only : (left : List X) (x : X) → AreByName left
        → ((y : X) → slice_get left 0 ≡ Some y → is_below (name_of x) y ≡ false) → has left x ≡ has_first left x
    first_only [] x keeps first = refl
    first_only (y ∷ left) x keeps first = grind (arith, common_steps, any_without, later_others, or-false)

    module _ (before left items : List X) (keeps : AreByName items) (place : ℕ) (x : X) (within : place < length items)
        (at : get_or items place x ≡ x) (still : StillHas before left items place) where
      passed : (j : ℕ) (y : X) → place ≤ j → j < length items → get_or items j y ≡ y → has before y ≡ has (from_name (name_of x) left) y
      passed j y from l here =
          let after : is_below (name_of x) y ≡ false =
          (λ i. is_lt (name_cmp (name_of (sym here i)) (name_of ((sym at ∙ get_or_default items place x y within) i))))
          ∙ sorted_far _ order items keeps.0 place j y from l in
          still.same j y from l here
          ∙ any_left (is_below (name_of x)) (λ u. alike u y) left (λ u before. unlike u y (others (name_of x) y u after before))

      -- and so it does once those before the next name are passed
      pub still_has : StillHas before (from_name (name_of x) left) items (place + 1)
      still_has = record {
        keeps = keeps_left (prefix_len (is_below (name_of x)) left) left still.keeps;
        same = λ j y from l here. passed j y (omega arith) l here;
      }

      -- and the next item was there where it is the first
      pub had_first : has before x ≡ has_first (from_name (name_of x) left) x
      had_first =
          passed place x (omega arith) within at
          ∙ first_only (from_name (name_of x) left) x still_has.keeps (first_left (is_below (name_of x)) left)
