-- Lists that rise by a strict order, and have exactly the elements of another list.
use Rattle.std.proofs.Common.{◌≡◌, ◌∙◌, ℕ, ◌+◌, suc, Bool, true, false, cond, List, [], ◌∷◌, ◌++◌, fold, take, drop, refl, sym, ap, subst}
use Rattle.std.proofs.{Common.{inl, inr, ◌⊎◌, arith}, lemmas.Bool.{false≢true, true_from_ne_false}}
use Rattle.std.proofs.lemmas.List.{Elements.{All-append, All-cons, All-contains, All-head, All-nil, All-tail, All-weaker}, Folds.{Any-from_list_any, list_any_at}}
use Rattle.std.proofs.lemmas.List.Kept.{AllPairs-cons}
use Rattle.std.specs.{Prelude.{insert, if◌then◌else◌, ◌↔◌}, List.{All, AllPairs, Contains, list_any, prefix_len}}
use Rattle.cdm_flight.proofs.Lists.{contains_cases, contains_head, contains_tail}

-- an element in its place
abbrev put : {X : Type 0} → (X → X → Bool) → List X → X → List X
put before [] g = g ∷ []
put before (x ∷ xs) g = cond (before x g) (x ∷ put before xs g) (g ∷ x ∷ xs)

put_is : {X : Type 0} (before : X → X → Bool) (xs : List X) (g : X) → insert xs (prefix_len (λ h. before h g) xs) g ≡ put before xs g
put_is before [] g = refl
put_is {X} before (x ∷ xs) g = by (before x g) (prefix_len (λ h. before h g) xs) (put_is before xs g)
  where
    by : (b : Bool) (n : ℕ) → take n xs ++ g ∷ drop n xs ≡ put before xs g
        → take (cond b (1 + n) 0) (x ∷ xs) ++ g ∷ drop (cond b (1 + n) 0) (x ∷ xs) ≡ cond b (x ∷ put before xs g) (g ∷ x ∷ xs)
    by true n later =
        let next : 1 + n ≡ suc n = omega arith in
        ap (λ k. take k (x ∷ xs) ++ g ∷ drop k (x ∷ xs)) next ∙ ap (λ l. x ∷ l) later
    by false n later = refl

-- what holds of each two of a list, and of another, and of one of each
pub pairs_append : {X : Type 0} (R : X → X → Type 0) (xs ys : List X) → AllPairs R xs → AllPairs R ys → ((x : X) → Contains xs x → All (R x) ys)
    → AllPairs R (xs ++ ys)
pairs_append R [] ys up vp across = vp
pairs_append R (x ∷ xs) ys up vp across =
    AllPairs-cons R x (xs ++ ys)
    (All-append (R x) xs ys (λ k d l. up 0 (suc k) d (omega arith) (omega (arith, l))) (across x (contains_head x xs)))
    (pairs_append R xs ys (λ i j d l m. up (suc i) (suc j) d (omega (arith, l)) (omega (arith, m))) vp (λ z i. across z (contains_tail x xs z i)))

module _ {X : Type 0} (before : X → X → Bool) where
  -- each element is before all that follow it
  abbrev pub Rises : List X → Type 0
  Rises [] = Unit {0}
  Rises (x ∷ xs) = All (λ y. before x y ≡ true) xs × Rises xs

  pub pairs_rise : (xs : List X) → Rises xs → AllPairs (λ x y. before x y ≡ true) xs
  pairs_rise [] up = λ i j d l m. absurd (omega (arith, m))
  pairs_rise (x ∷ xs) up = AllPairs-cons (λ x y. before x y ≡ true) x xs up.0 (pairs_rise xs up.1)

  pub rises : (xs : List X) → AllPairs (λ x y. before x y ≡ true) xs → Rises xs
  rises [] up = tt
  rises (x ∷ xs) up =
      (λ k d l. up 0 (suc k) d (omega arith) (omega (arith, l)), rises xs (λ i j d l m. up (suc i) (suc j) d (omega (arith, l)) (omega (arith, m))))

  all_put : (P : X → Type 0) (xs : List X) (g : X) → P g → All P xs → All P (put before xs g)
  all_put P [] g here all = All-cons P g [] here (All-nil P)
  all_put P (x ∷ xs) g here all = by (all_put P xs g here (All-tail P x xs all)) (before x g)
    where
      by : All P (put before xs g) → (b : Bool) → All P (cond b (x ∷ put before xs g) (g ∷ x ∷ xs))
      by later true = All-cons P x (put before xs g) (All-head P x xs all) later
      by later false = All-cons P g (x ∷ xs) here all

  -- it has what was there, and the element
  put_from : (xs : List X) (g y : X) → Contains (put before xs g) y → Contains xs y ⊎ (g ≡ y)
  put_from [] g y i = elim (contains_cases g [] y i) [ inl e ↦ inr e | inr j ↦ inl j ]
  put_from (x ∷ xs) g y i = by (put_from xs g y) (before x g) i
    where
      by : (Contains (put before xs g) y → Contains xs y ⊎ (g ≡ y)) → (b : Bool) → Contains (cond b (x ∷ put before xs g) (g ∷ x ∷ xs)) y
          → Contains (x ∷ xs) y ⊎ (g ≡ y)
      by later true i = elim (contains_cases x (put before xs g) y i) [
        | inl e ↦ inl (subst (λ z. Contains (x ∷ xs) z) e (contains_head x xs))
        | inr j ↦ elim (later j) [ inl k ↦ inl (contains_tail x xs y k) | inr e ↦ inr e ]
      ]
      by later false i = elim (contains_cases g (x ∷ xs) y i) [ inl e ↦ inr e | inr j ↦ inl j ]

  put_here : (xs : List X) (g : X) → Contains (put before xs g) g
  put_here [] g = contains_head g []
  put_here (x ∷ xs) g = by (put_here xs g) (before x g)
    where
      by : Contains (put before xs g) g → (b : Bool) → Contains (cond b (x ∷ put before xs g) (g ∷ x ∷ xs)) g
      by later true = contains_tail x (put before xs g) g later
      by later false = contains_head g (x ∷ xs)

  put_keeps : (xs : List X) (g y : X) → Contains xs y → Contains (put before xs g) y
  put_keeps [] g y i = absurd (omega (arith, i.1))
  put_keeps (x ∷ xs) g y i = by (put_keeps xs g y) (before x g)
    where
      by : (Contains xs y → Contains (put before xs g) y) → (b : Bool) → Contains (cond b (x ∷ put before xs g) (g ∷ x ∷ xs)) y
      by later true = elim (contains_cases x xs y i) [
        | inl e ↦ subst (λ z. Contains (x ∷ put before xs g) z) e (contains_head x (put before xs g))
        | inr j ↦ contains_tail x (put before xs g) y (later j)
      ]
      by later false = contains_tail g (x ∷ xs) y i

  module _ (one_way : (x y : X) → before x y ≡ true → before y x ≡ false)
      (through : (x y z : X) → before x y ≡ true → before y z ≡ true → before x z ≡ true)
      (alike : (x y : X) → before x y ≡ false → before y x ≡ false → x ≡ y) where
    put_rises : (xs : List X) (g : X) → Rises xs → ((y : X) → Contains xs y → y ≡ g → ⊥) → Rises (put before xs g)
    put_rises [] g up absent = (All-nil (λ y. before g y ≡ true), tt)
    put_rises (x ∷ xs) g up absent = by (put_rises xs g up.1 (λ y i. absent y (contains_tail x xs y i))) (before x g) refl
      where
        by : Rises (put before xs g) → (b : Bool) → before x g ≡ b → Rises (cond b (x ∷ put before xs g) (g ∷ x ∷ xs))
        by later true e = (all_put (λ y. before x y ≡ true) xs g e up.0, later)
        by later false e =
            let first : before g x ≡ true = true_from_ne_false (before g x) (λ f. absent x (contains_head x xs) (alike x g e f)) in
            (All-cons (λ y. before g y ≡ true) x xs first (All-weaker (λ y. before x y ≡ true) (λ y. before g y ≡ true) (λ y k. through g x y first k) xs up.0), up)

    never : (u v : X) → before u v ≡ true → before v u ≡ true → ⊥
    never u v h k = false≢true (sym (one_way u v h) ∙ k)

    -- the first of two lists that rise and have the same elements
    one_first : (x y : X) (xs ys : List X) → Rises (x ∷ xs) → Rises (y ∷ ys) → Contains (y ∷ ys) x → Contains (x ∷ xs) y → x ≡ y
    one_first x y xs ys up vp i j = elim (contains_cases y ys x i) [
      | inl e ↦ sym e
      | inr k ↦ elim (contains_cases x xs y j) [
        | inl e ↦ e
        | inr l ↦ absurd (never x y (All-contains (λ z. before x z ≡ true) xs y up.0 l) (All-contains (λ z. before y z ≡ true) ys x vp.0 k))
      ]
    ]

    -- what comes after it
    later_ones : (u v : X) (us vs : List X) → u ≡ v → All (λ z. before u z ≡ true) us → ((z : X) → Contains (u ∷ us) z → Contains (v ∷ vs) z)
        → (z : X) → Contains us z → Contains vs z
    later_ones u v us vs e all to z i = elim (contains_cases v vs z (to z (contains_tail u us z i))) [
      | inl f ↦ let own : before z z ≡ true = subst (λ w. before w z ≡ true) (e ∙ f) (All-contains (λ z. before u z ≡ true) us z all i) in absurd (never z z own own)
      | inr j ↦ j
    ]

    -- a list that rises is known by its elements
    pub one_rising : (xs ys : List X) → Rises xs → Rises ys → ((z : X) → Contains xs z → Contains ys z) → ((z : X) → Contains ys z → Contains xs z) → xs ≡ ys
    one_rising [] [] up vp there back = refl
    one_rising [] (y ∷ ys) up vp there back = absurd (omega (arith, (back y (contains_head y ys)).1))
    one_rising (x ∷ xs) [] up vp there back = absurd (omega (arith, (there x (contains_head x xs)).1))
    one_rising (x ∷ xs) (y ∷ ys) up vp there back =
        let same : x ≡ y = one_first x y xs ys up vp (there x (contains_head x xs)) (back y (contains_head y ys)) in
        let rest = one_rising xs ys up.1 vp.1 (later_ones x y xs ys same up.0 there) (later_ones y x ys xs (sym same) vp.0 back) in
        λ i. same i ∷ rest i

    module _ (same : X → X → Bool) (is : (x y : X) → same x y ≡ true → x ≡ y) (itself : (x : X) → same x x ≡ true) where
      abbrev one_more : List X → X → List X
      one_more xs g = if list_any (same g) xs then xs else insert xs (prefix_len (λ h. before h g) xs) g

      record More (xs : List X) (g : X) (ys : List X) : Type 0 where
        up : Rises ys
        kept : (y : X) → Contains xs y → Contains ys y
        here : Contains ys g
        from : (y : X) → Contains ys y → Contains xs y ⊎ (g ≡ y)

      more : (xs : List X) (g : X) → Rises xs → More xs g (one_more xs g)
      more xs g up = by (list_any (same g) xs) refl
        where
          by : (b : Bool) → list_any (same g) xs ≡ b → More xs g (if b then xs else insert xs (prefix_len (λ h. before h g) xs) g)
          by true e =
              let found = Any-from_list_any (same g) xs e in
              let there : Contains xs found.1 = (found.0, found.2, found.3) in
              record { up = up; kept = λ y i. i; here = subst (λ z. Contains xs z) (sym (is g found.1 found.4)) there; from = λ y i. inl i }
          by false e =
              let absent : (y : X) → Contains xs y → y ≡ g → ⊥ = λ y i f.
              false≢true (sym e ∙ list_any_at (same g) xs i.0 y i.1 (ap (same g) i.2 ∙ ap (same g) f ∙ itself g)) in
              subst (More xs g) (sym (put_is before xs g))
              (record { up = put_rises xs g up absent; kept = put_keeps xs g; here = put_here xs g; from = put_from xs g })

      -- the elements of a list, one by one
      pub all_more : (xs gs : List X) → Rises xs → Rises (fold one_more xs gs) × ((y : X) → Contains (fold one_more xs gs) y ↔ (Contains xs y ⊎ Contains gs y))
      all_more xs [] up = (up, λ y. (λ i. inl i, λ i. elim i [ inl j ↦ j | inr k ↦ absurd (omega (arith, k.1)) ]))
      all_more xs (g ∷ gs) up =
          let next = more xs g up in
          let rest = all_more (one_more xs g) gs next.up in (
            rest.0,
            λ y. (
              λ i. elim ((rest.1 y).0 i) [
                | inl j ↦ elim (next.from y j) [ inl k ↦ inl k | inr e ↦ inr (subst (λ z. Contains (g ∷ gs) z) e (contains_head g gs)) ]
                | inr k ↦ inr (contains_tail g gs y k)
              ],
              λ i. (rest.1 y).1 (elim i [
                | inl j ↦ inl (next.kept y j)
                | inr k ↦ elim (contains_cases g gs y k) [
                  | inl e ↦ inl (subst (λ z. Contains (one_more xs g) z) e next.here)
                  | inr l ↦ inr l
                ]
              ]),
            ),
          )
