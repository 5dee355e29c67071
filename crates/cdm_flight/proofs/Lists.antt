-- Lists: their elements, their sums, and their permutations.
use Rattle.std.proofs.lemmas.Grind.{common_steps}
use Rattle.std.proofs.Common.{◌≡◌, ℕ, zero, suc, ◌+◌, ◌<◌, Bool, true, false, cond, List, [], ◌∷◌, ◌++◌, Option, Some, None, IfSome, sym}
use Rattle.std.proofs.Common.{◌∙◌, ap, subst, refl, arith, inl, inr, ◌⊎◌, ◌||◌, sum_by, filter, map, set, get_or, length, append_assoc}
use Rattle.std.proofs.{Common.rules, Math.Bool.{or-false, or_comm}}
use Rattle.std.proofs.lemmas.{Bool.{cases_order, cond_both, false≢true, false_from_ne_true, true_from_ne_false}, List.Edits.swap_is}
use Rattle.std.proofs.lemmas.List.{get_or-map, get_or_append_left, get_or_default, length-append, length-map}
use Rattle.std.proofs.lemmas.List.Elements.{Contains-append_right, All-from_recursion, All-contains, All-contains_itself, All-filter}
use Rattle.std.proofs.lemmas.List.Folds.{fold-map, list_any-append}
use Rattle.std.proofs.lemmas.List.Sorted.{IsPermutation-refl, IsPermutation-trans, IsPermutation-append_left, IsPermutation-append_right}
use Rattle.std.proofs.lemmas.List.{Sorted.{IsPermutation-append_comm, IsPermutation-keeps, sorted_far}, Sums.{sum_by-cons, take_while-cons}}
use Rattle.std.proofs.lemmas.Map.Keys.{apart_from_distinct, IsDistinct-from_apart, IsDistinct-cons, IsDistinct-head, IsDistinct-tail}
use Rattle.std.specs.{Cmp.IsStrictWeakOrder, Prelude.{is_some, if◌then◌else◌}}
use Rattle.std.specs.List.{filter_map, find, list_all, list_any, take_while, All, Contains, cons_option, swap, AllByRecursion, IsDistinct}
use Rattle.std.specs.{List.Sorted.{IsPermutation, IsSortedBy}, Option.option_to_list}

-- Elements.

pub contains_cases : {X : Type 0} (x : X) (xs : List X) (y : X) → Contains (x ∷ xs) y → (x ≡ y) ⊎ Contains xs y
contains_cases x xs y e = search rules

pub contains_head : {X : Type 0} (x : X) (xs : List X) → Contains (x ∷ xs) x
contains_head x xs = (0, omega arith, refl)

pub contains_tail : {X : Type 0} (x : X) (xs : List X) (y : X) → Contains xs y → Contains (x ∷ xs) y
contains_tail x xs y (k, l, e) = (suc k, omega arith, e)

pub contains_map : {X Y : Type 0} (f : X → Y) (xs : List X) (x : X) → Contains xs x → Contains (map f xs) (f x)
contains_map f xs x i = (i.0, rw length-map i.1, get_or-map f xs i.0 x (f x) i.1 ∙ ap f i.2)

-- an element of a map comes from an element
pub contains_from_map : {X Y : Type 0} (f : X → Y) (xs : List X) (y : Y) → Contains (map f xs) y → (x : X) × Contains xs x × (f x ≡ y)
contains_from_map f [] y (k, l, e) = absurd (omega arith)
contains_from_map f (x ∷ xs) y i = elim (contains_cases (f x) (map f xs) y i) [
  | inl e ↦ (x, contains_head x xs, e)
  | inr j ↦ let w = contains_from_map f xs y j in (w.0, contains_tail x xs w.0 w.1, w.2)
]

-- what each element gives has a property, where it gives something
pub All-given : {X Y : Type 0} (h : X → Option Y) (P : Y → Type 0) (xs : List X) → ((x : X) → Contains xs x → IfSome (h x) P) → All P (filter_map h xs)
All-given {X} {Y} h P xs each = All-from_recursion P (filter_map h xs) (by xs each) where
  given : (o : Option Y) (zs : List Y) → IfSome o P → AllByRecursion P zs → AllByRecursion P (cons_option o zs)
  given o zs k rest = search rules

  by : (ys : List X) → ((x : X) → Contains ys x → IfSome (h x) P) → AllByRecursion P (filter_map h ys)
  by [] all = tt
  by (y ∷ ys) all = given (h y) (filter_map h ys) (all y (contains_head y ys)) (by ys (λ x i. all x (contains_tail y ys x i)))

-- what the list gives comes from an element
pub contains_from_given : {X Y : Type 0} (h : X → Option Y) (xs : List X) (y : Y) → Contains (filter_map h xs) y
    → (x : X) × Contains xs x × (h x ≡ Some y)
contains_from_given {X} {Y} h xs y = All-contains From (filter_map h xs) y (All-given h From xs (λ x i. found x i (h x) refl)) where
  From : Y → Type 0
  From z = (x : X) × Contains xs x × (h x ≡ Some z)

  found : (x : X) → Contains xs x → (o : Option Y) → h x ≡ o → IfSome o From
  found x i o e = search rules

pub filter_map-map : {X Y Z : Type 0} (h : Y → Option Z) (g : X → Y) (xs : List X) → filter_map h (map g xs) ≡ filter_map (λ x. h (g x)) xs
filter_map-map h g [] = refl
filter_map-map h g (x ∷ xs) = ap (λ ys. cons_option (h (g x)) ys) (filter_map-map h g xs)

abbrev pub if_so : {Y : Type 0} → Bool → Option Y → Option Y
if_so b o = cond b o None

pub filter_map-filter : {X Y : Type 0} (h : X → Option Y) (p : X → Bool) (xs : List X)
    → filter_map h (filter p xs) ≡ filter_map (λ x. if_so (p x) (h x)) xs
filter_map-filter h p [] = refl
filter_map-filter h p (x ∷ xs) = let later = filter_map-filter h p xs in grind arith

-- two functions that agree on a list's elements
pub filter_map_same : {X Y : Type 0} (h k : X → Option Y) (xs : List X) → ((x : X) → Contains xs x → h x ≡ k x) → filter_map h xs ≡ filter_map k xs
filter_map_same h k [] same = refl
filter_map_same h k (x ∷ xs) same = grind (arith, common_steps, filter_map_same h k xs (λ y j. same y (contains_tail x xs y j)))

pub filter_same : {X : Type 0} (p q : X → Bool) (xs : List X) → ((x : X) → Contains xs x → p x ≡ q x) → filter p xs ≡ filter q xs
filter_same p q [] same = refl
filter_same p q (x ∷ xs) same = grind (arith, common_steps, filter_same p q xs (λ y j. same y (contains_tail x xs y j)))

-- Tests of any element.

pub list_any-push : {X : Type 0} (p : X → Bool) (xs : List X) (x : X) → list_any p (xs ++ x ∷ []) ≡ (p x || list_any p xs)
list_any-push p xs x = list_any-append p xs (x ∷ []) ∙ (ap (λ b. list_any p xs || b) (or-false (p x)) ∙ or_comm (list_any p xs) (p x))

pub list_any-find : {X : Type 0} (p : X → Bool) (xs : List X) → list_any p xs ≡ is_some (find p xs)
list_any-find p [] = refl
list_any-find p (x ∷ xs) = let later = list_any-find p xs in grind arith

pub list_any-map : {X Y : Type 0} (p : Y → Bool) (f : X → Y) (xs : List X) → list_any p (map f xs) ≡ list_any (λ x. p (f x)) xs
list_any-map p f [] = refl
list_any-map p f (x ∷ xs) = ap (λ b. p (f x) || b) (list_any-map p f xs)

pub list_any-same : {X : Type 0} (p q : X → Bool) → ((x : X) → p x ≡ q x) → (xs : List X) → list_any p xs ≡ list_any q xs
list_any-same p q same xs = λ i. list_any (λ x. same x i) xs

-- Sums.

-- sums of two functions that agree on the list
pub sum_same : {X : Type 0} (f g : X → ℕ) (xs : List X) → ((y : X) → Contains xs y → f y ≡ g y) → sum_by f xs ≡ sum_by g xs
sum_same f g [] h = refl
sum_same f g (x ∷ xs) h = grind (arith, common_steps, sum_same f g xs (λ y k. h y (contains_tail x xs y k)))

pub sum_map : {X Y : Type 0} (g : Y → ℕ) (f : X → Y) (xs : List X) → sum_by g (map f xs) ≡ sum_by (λ x. g (f x)) xs
sum_map g f xs = fold-map (λ a y. a + g y) f 0 xs

pub sum_by-add : {X : Type 0} (g h : X → ℕ) (xs : List X) → sum_by (λ x. g x + h x) xs ≡ sum_by g xs + sum_by h xs
sum_by-add g h [] = refl
sum_by-add g h (x ∷ xs) = grind (arith, common_steps, sum_by-add g h xs)

pub sum_by-zero : {X : Type 0} (xs : List X) → sum_by (λ (x : X). 0) xs ≡ 0
sum_by-zero [] = refl
sum_by-zero {X} (x ∷ xs) = let a = sum_by-cons (λ (x : X). 0) x xs in let b = sum_by-zero xs in omega arith

sum_none : {X : Type 0} (f : X → ℕ) (xs : List X) → ((y : X) → Contains xs y → f y ≡ 0) → sum_by f xs ≡ 0
sum_none f xs h = sum_same f (λ _. 0) xs h ∙ sum_by-zero xs

-- Permutations.

pub filter_map_cons : {X Y : Type 0} (h : X → Option Y) (x : X) (xs : List X) → filter_map h (x ∷ xs) ≡ option_to_list (h x) ++ filter_map h xs
filter_map_cons h x xs = grind arith

exchange : {X : Type 0} (us vs ws : List X) → IsPermutation (us ++ (vs ++ ws)) (vs ++ (us ++ ws))
exchange us vs ws = rw (← append_assoc us vs ws, ← append_assoc vs us ws) (IsPermutation-append_left ws (us ++ vs) (vs ++ us) (IsPermutation-append_comm us vs))

-- an element that changes places with another
taken_out : {X Y : Type 0} (h : X → Option Y) (x : X) (xs : List X) (j : ℕ) (d : X) → j < length xs
    → IsPermutation (option_to_list (h x) ++ filter_map h xs) (option_to_list (h (get_or xs j d)) ++ filter_map h (set xs j x))
taken_out h x [] j d l = absurd (omega arith)
taken_out h x (y ∷ ys) zero d l = search (rules, filter_map_cons, exchange)
taken_out h x (y ∷ ys) (suc j) d l =
    let a = option_to_list (h x) in
    let b = option_to_list (h y) in
    let g = option_to_list (h (get_or ys j d)) in
    let us = filter_map h ys in
    let vs = filter_map h (set ys j x) in
    rw (filter_map_cons h y ys, filter_map_cons h y (set ys j x))
    (IsPermutation-trans (a ++ (b ++ us)) (b ++ (a ++ us)) (g ++ (b ++ vs)) (exchange a b us)
    (IsPermutation-trans (b ++ (a ++ us)) (b ++ (g ++ vs)) (g ++ (b ++ vs))
    (IsPermutation-append_right b (a ++ us) (g ++ vs) (taken_out h x ys j d (omega arith))) (exchange b g vs)))

swapped : {X Y : Type 0} (h : X → Option Y) (xs : List X) (i j : ℕ) (d : X) → i < length xs → j < length xs
    → IsPermutation (filter_map h xs) (filter_map h (set (set xs i (get_or xs j d)) j (get_or xs i d)))
swapped h [] i j d k l = absurd (omega arith)
swapped h (x ∷ xs) zero zero d k l = IsPermutation-refl (filter_map h (x ∷ xs))
swapped h (x ∷ xs) zero (suc j) d k l =
    rw (filter_map_cons h x xs, filter_map_cons h (get_or xs j d) (set xs j x)) (taken_out h x xs j d (omega arith))
swapped h (x ∷ xs) (suc i) zero d k l =
    rw (filter_map_cons h x xs, filter_map_cons h (get_or xs i d) (set xs i x)) (taken_out h x xs i d (omega arith))
swapped h (x ∷ xs) (suc i) (suc j) d k l = search (rules, filter_map_cons, IsPermutation-append_right, swapped h xs i j d (omega arith) (omega arith))

pub IsPermutation-filter_map : {X Y : Type 0} (h : X → Option Y) (xs ys : List X) → IsPermutation xs ys → IsPermutation (filter_map h xs) (filter_map h ys)
IsPermutation-filter_map {X} h xs ys same =
    IsPermutation-keeps xs (λ l. IsPermutation (filter_map h xs) (filter_map h l)) (IsPermutation-refl (filter_map h xs)) step ys same where
      step : (l : List X) (i j : ℕ) → i < length l → j < length l → IsPermutation (filter_map h xs) (filter_map h l)
          → IsPermutation (filter_map h xs) (filter_map h (swap l i j))
      step [] i j a b p = p
      step (d ∷ l) i j a b p =
          IsPermutation-trans (filter_map h xs) (filter_map h (d ∷ l)) (filter_map h (swap (d ∷ l) i j)) p
          (rw (← swap_is (d ∷ l) i j d a b) (swapped h (d ∷ l) i j d a b))

abbrev only : {X : Type 0} → (X → Bool) → X → Option X
only p x = cond (p x) (Some x) None

filter_is : {X : Type 0} (p : X → Bool) (xs : List X) → filter_map (only p) xs ≡ filter p xs
filter_is p [] = refl
filter_is p (x ∷ xs) = let later = filter_is p xs in grind arith

pub IsPermutation-filter : {X : Type 0} (p : X → Bool) (xs ys : List X) → IsPermutation xs ys → IsPermutation (filter p xs) (filter p ys)
IsPermutation-filter p xs ys same = rw (← filter_is p xs, ← filter_is p ys) (IsPermutation-filter_map (only p) xs ys same)

-- Sorted lists.

pub sorted_rest : {X : Type 0} (lt : X → X → Bool) (x : X) (xs : List X) → IsSortedBy lt (x ∷ xs) → IsSortedBy lt xs
sorted_rest {X} lt x xs up = λ k d a b.
    let next : suc k + 1 ≡ suc (k + 1) = omega arith in
    subst (λ (n : ℕ). lt (get_or (x ∷ xs) n d) (get_or xs k d) ≡ false) next (up (suc k) d (omega arith) (omega arith))

-- the first of a sorted list is no greater than any of it
none_below : {X K : Type 0} (lt : K → K → Bool) → IsStrictWeakOrder lt → (key : X → K) (x : X) (xs : List X)
    → IsSortedBy (λ a b. lt (key a) (key b)) (x ∷ xs) → (y : X) → Contains (x ∷ xs) y → lt (key y) (key x) ≡ false
none_below lt weak key x xs up y (k, l, e) =
    let by_key : IsStrictWeakOrder (λ a b. lt (key a) (key b)) = search rules in
    subst (λ z. lt (key z) (key x) ≡ false) e (sorted_far (λ a b. lt (key a) (key b)) by_key (x ∷ xs) up 0 k y (omega arith) l)

-- 1 for a key that x isn't below
abbrev not_below : {K : Type 0} → (K → K → Bool) → K → K → ℕ
not_below lt x k = cond (lt x k) 0 1

-- a list whose first is below the first of another has other keys
heads_tie : {X K : Type 0} (lt : K → K → Bool) → IsStrictWeakOrder lt → (key : X → K) (x y : X) (xs ys : List X)
    → IsSortedBy (λ a b. lt (key a) (key b)) (y ∷ ys)
    → sum_by (λ a. not_below lt (key x) (key a)) (x ∷ xs) ≡ sum_by (λ a. not_below lt (key x) (key a)) (y ∷ ys) → lt (key x) (key y) ≡ false
heads_tie {X} lt weak key x y xs ys up sums = false_from_ne_true (lt (key x) (key y)) (λ e.
    let n : X → ℕ = λ a. not_below lt (key x) (key a) in
    let itself = false_from_ne_true (lt (key x) (key x)) (λ h. false≢true (sym (weak.one_way (key x) (key x) h) ∙ h)) in
    let above : (b : X) → Contains (y ∷ ys) b → lt (key x) (key b) ≡ true = λ b i. true_from_ne_false (lt (key x) (key b)) (λ h.
    false≢true (sym (weak.chain (key x) (key b) (key y) h (none_below lt weak key y ys up b i)) ∙ e)) in
    let none = sum_none n (y ∷ ys) (λ b i. ap {B = ℕ} (λ v. cond v 0 1) (above b i)) in
    omega (arith, sum_by-cons n x xs, ap {B = ℕ} (λ v. cond v 0 1) itself))

-- two sorted lists with the same keys are the same list, where elements that tie are the same
pub sorted_one : {X K : Type 0} (lt : K → K → Bool) → IsStrictWeakOrder lt → (key : X → K) (xs ys : List X)
    → ((a b : X) → Contains xs a → Contains ys b → lt (key a) (key b) ≡ false → lt (key b) (key a) ≡ false → a ≡ b)
    → IsSortedBy (λ a b. lt (key a) (key b)) xs → IsSortedBy (λ a b. lt (key a) (key b)) ys
    → ((g : K → ℕ) → sum_by (λ a. g (key a)) xs ≡ sum_by (λ a. g (key a)) ys) → xs ≡ ys
sorted_one lt weak key [] [] agree up vp sums = refl
sorted_one lt weak key [] (y ∷ ys) agree up vp sums = absurd (omega (arith, sums (λ _. 1), sum_by-cons (λ _. 1) y ys))
sorted_one lt weak key (x ∷ xs) [] agree up vp sums = absurd (omega (arith, sums (λ _. 1), sum_by-cons (λ _. 1) x xs))
sorted_one lt weak key (x ∷ xs) (y ∷ ys) agree up vp sums =
    let down = heads_tie lt weak key x y xs ys vp (sums (not_below lt (key x))) in
    let back = heads_tie lt weak key y x ys xs up (sym (sums (not_below lt (key y)))) in
    let same : x ≡ y = agree x y (contains_head x xs) (contains_head y ys) down back in
    let rest = sorted_one lt weak key xs ys (λ a b i j. agree a b (contains_tail x xs a i) (contains_tail y ys b j))
    (sorted_rest (λ a b. lt (key a) (key b)) x xs up) (sorted_rest (λ a b. lt (key a) (key b)) y ys vp)
    (λ g. omega (arith, sums g, sum_by-cons (λ a. g (key a)) x xs, sum_by-cons (λ a. g (key a)) y ys, ap (λ z. g (key z)) same)) in
    λ i. same i ∷ rest i

-- Lists without doubles.

pub distinct_left : {K : Type 0} (e : K → K → Bool) (xs ys : List K) → IsDistinct e (xs ++ ys) → IsDistinct e xs
distinct_left e xs ys h = IsDistinct-from_apart e xs (λ i j d before below.
    rw (← get_or_append_left xs ys d i (omega arith), ← get_or_append_left xs ys d j below)
    (apart_from_distinct e (xs ++ ys) i j d h before (rw length-append (omega arith))))

pub distinct_right : {K : Type 0} (e : K → K → Bool) (xs ys : List K) → IsDistinct e (xs ++ ys) → IsDistinct e ys
distinct_right e [] ys h = h
distinct_right e (x ∷ xs) ys h = distinct_right e xs ys (IsDistinct-tail e x (xs ++ ys) h)

-- by what a key reads
pub distinct_by : {X K : Type 0} (e : K → K → Bool) (key : X → K) (xs : List X) → IsDistinct e (map key xs) → IsDistinct (λ a b. e (key a) (key b)) xs
distinct_by e key xs h = IsDistinct-from_apart (λ a b. e (key a) (key b)) xs (λ i j d before below.
    rw (← get_or-map key xs i d (key d) (omega arith), ← get_or-map key xs j d (key d) below)
    (apart_from_distinct e (map key xs) i j (key d) h before (rw length-map below)))

-- what stands after the first differs from it
pub apart_from_head : {K : Type 0} (e : K → K → Bool) (k : K) (ks : List K) (x : K) → IsDistinct e (k ∷ ks) → Contains ks x → e k x ≡ false
apart_from_head e k ks x h i = All-contains (λ y. e k y ≡ false) ks x (All-from_recursion (λ y. e k y ≡ false) ks (IsDistinct-head e k ks h)) i

-- nor do two lists of which one follows the other share an element
pub apart_from_rest : {K : Type 0} (e : K → K → Bool) (xs ys : List K) (x y : K) → IsDistinct e (xs ++ ys) → Contains xs x → Contains ys y → e x y ≡ false
apart_from_rest e [] ys x y h i j = absurd (omega (arith, i.1))
apart_from_rest {K} e (z ∷ zs) ys x y h i j = elim (contains_cases z zs x i) [
  | inl same ↦ subst (λ (k : K). e k y ≡ false) same (apart_from_head e z (zs ++ ys) y h (Contains-append_right zs ys y j))
  | inr k ↦ apart_from_rest e zs ys x y (IsDistinct-tail e z (zs ++ ys) h) k j
]

-- what passes a test has no doubles either
pub distinct_filter : {X K : Type 0} (e : K → K → Bool) (key : X → K) (test : X → Bool) (xs : List X) → IsDistinct e (map key xs)
    → IsDistinct e (map key (filter test xs))
unfolding IsDistinct
distinct_filter e key test [] h = tt
distinct_filter {X} e key test (x ∷ xs) h =
    let rest = distinct_filter e key test xs (IsDistinct-tail e (key x) (map key xs) h) in
    cond_both (test x) (x ∷ filter test xs) (filter test xs) (λ ys. IsDistinct e (map key ys))
    (λ yes. IsDistinct-cons e (key x) (map key (filter test xs)) (kept xs (IsDistinct-head e (key x) (map key xs) h)) rest) (λ no. rest) where
      kept : (ys : List X) → AllByRecursion (λ k. e (key x) k ≡ false) (map key ys) → AllByRecursion (λ k. e (key x) k ≡ false) (map key (filter test ys))
      kept [] a = tt
      kept (y ∷ ys) a =
          cond_both (test y) (y ∷ filter test ys) (filter test ys) (λ zs. AllByRecursion (λ k. e (key x) k ≡ false) (map key zs))
          (λ yes. (a.0, kept ys a.1)) (λ no. kept ys a.1)

-- two elements of the same key are one
pub one_of_key : {X K : Type 0} (e : K → K → Bool) (flips : (x y : K) → e x y ≡ e y x) (key : X → K) (xs : List X) (x y : X) → IsDistinct e (map key xs)
    → Contains xs x
    → Contains xs y → e (key x) (key y) ≡ true → x ≡ y
one_of_key {X} e flips key xs x y own (i, l, p) (j, m, q) h =
    let at : (k : ℕ) (z : X) → k < length xs → get_or xs k z ≡ z → get_or (map key xs) k (key x) ≡ key z = search (rules, get_or-map) in
    elim (cases_order i j) [
      | inl same ↦ sym p ∙ get_or_default xs i x y l ∙ ap (λ k. get_or xs k y) same ∙ q
      | inr (inl before) ↦ absurd (false≢true (sym (apart_from_distinct e (map key xs) i j (key x) own before (rw length-map m))
          ∙ (λ t. e (at i x l p t) (at j y m q t)) ∙ h))
      | inr (inr after) ↦ absurd (false≢true (sym (apart_from_distinct e (map key xs) j i (key x) own after (rw length-map l))
          ∙ (λ t. e (at j y m q t) (at i x l p t)) ∙ flips (key y) (key x) ∙ h))
    ]

-- Filters.

pub contains_kept : {X : Type 0} (t : X → Bool) (xs : List X) (x : X) → Contains xs x → t x ≡ true → Contains (filter t xs) x
contains_kept t [] x i h = absurd (omega (arith, i.1))
contains_kept t (y ∷ ys) x i h = elim (contains_cases y ys x i) [
  | inl e ↦ cond_both (t y) (y ∷ filter t ys) (filter t ys) (λ zs. Contains zs x)
      (λ yes. subst (λ z. Contains (z ∷ filter t ys) x) (sym e) (contains_head x (filter t ys))) (λ no. absurd (false≢true (sym no ∙ ap t e ∙ h)))
  | inr j ↦ let rest = contains_kept t ys x j h in
      cond_both (t y) (y ∷ filter t ys) (filter t ys) (λ zs. Contains zs x) (λ yes. contains_tail y (filter t ys) x rest) (λ no. rest)
]

pub contains_all : {X : Type 0} (t : X → Bool) (xs : List X) (x : X) → Contains (filter t xs) x → Contains xs x
contains_all t xs x = All-contains (Contains xs) (filter t xs) x (All-filter t (Contains xs) xs (All-contains_itself xs))

-- Beginnings.

pub take_while-all : {X : Type 0} (p : X → Bool) (xs : List X) → list_all p xs ≡ true → take_while p xs ≡ xs
take_while-all p [] h = refl
take_while-all p (x ∷ xs) h = let later = take_while-all p xs in grind (arith, take_while-cons p x xs, h)

-- the beginning ends in the first list, or goes on in the second
pub take_while-append : {X : Type 0} (p : X → Bool) (xs ys : List X)
    → take_while p (xs ++ ys) ≡ (if list_all p xs then xs ++ take_while p ys else take_while p xs)
take_while-append p [] ys = refl
take_while-append p (x ∷ xs) ys = search (rules, take_while-cons, take_while-append p xs ys)
