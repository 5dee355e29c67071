-- Asking each flight against those before it is asking all pairs.
use Rattle.cdm_sequence.proofs.Words.{common_steps, ◌≡◌, ℕ, ◌+◌, Bool, true, false, List, ◌∷◌, ◌++◌, Option, Some, None, sym, ◌∙◌, ap}
use Rattle.cdm_sequence.proofs.Words.{subst, refl, arith, inl, inr, map, filter, get_or, [], Contains, IsDistinct, cons_option, filter_map}
use Rattle.cdm_sequence.proofs.Words.{option_map, false≢true, All-append, All-contains, Contains-get_or, filter_passes, same_name}
use Rattle.cdm_sequence.proofs.Words.{is_before, All-given, contains_all, contains_cases, contains_head, contains_kept, contains_tail}
use Rattle.cdm_sequence.proofs.Words.{one_of_key, RunwayRules, IsSpaced, meets, taken_by, Taken}
use Rattle.cdm_sequence.proofs.OrderLemmas.{before_itself, before_or_after, same_flips}
use Rattle.cdm_sequence.specs.{Plan.{IsSpacedInOrder, IsSpacedInPairs, Placing, taken_before, taken_of}, declared.target.Target.Target}
use Rattle.std.{specs.Prelude.nat_lt, specs.Option.IfSome, proofs.Math.Nat.{max_comm, min_comm}}

meets_flips : (s t : Taken) → meets s t ≡ meets t s
meets_flips s t = λ i. nat_lt (max_comm s.minute t.minute i) (min_comm (s.minute + s.occupancy) (t.minute + t.occupancy) i)

-- Elements.

given_more : {Y : Type 0} (o : Option Y) (ys : List Y) (y : Y) → Contains ys y → Contains (cons_option o ys) y
given_more None ys y i = i
given_more (Some z) ys y i = contains_tail z ys y i

-- what an element gives is given
contains_given : {X Y : Type 0} (h : X → Option Y) (xs : List X) (x : X) (y : Y) → Contains xs x → h x ≡ Some y → Contains (filter_map h xs) y
contains_given h [] x y i e = absurd (omega (arith, i.1))
contains_given h (z ∷ zs) x y i e = elim (contains_cases z zs x i) [
  | inl same ↦ subst (λ o. Contains (cons_option o (filter_map h zs)) y) (sym (ap h same ∙ e)) (contains_head y (filter_map h zs))
  | inr j ↦ given_more (h z) (filter_map h zs) y (contains_given h zs x y j e)
]

contains_left : {X : Type 0} (xs ys : List X) (x : X) → Contains xs x → Contains (xs ++ ys) x
contains_left xs ys x i = grind (arith, common_steps)

contains_right : {X : Type 0} (xs ys : List X) (x : X) → Contains ys x → Contains (xs ++ ys) x
contains_right [] ys x i = i
contains_right (z ∷ zs) ys x i = contains_tail z (zs ++ ys) x (contains_right zs ys x i)

-- Placings.

module _ (r : RunwayRules) (fixed : List Taken) (ts : List Target) (p : Placing) where
  abbrev earlier : Target → Target → Bool
  earlier f g = is_before g.key f.key

  -- what f takes at a minute meets nothing of these
  abbrev Clear : Target → ℕ → Taken → Type 0
  Clear f m t = meets (taken_by r f.group m) t ≡ false

  spaced_at : IsSpacedInOrder r fixed ts p → (f : Target) (m : ℕ) → Contains ts f → p f ≡ Some m → IsSpaced r (taken_before r fixed ts p f) f.group m
  spaced_at order f m i e = grind (arith, common_steps)

  -- a flight meets none before it
  clear_of_earlier : IsSpacedInOrder r fixed ts p → (f g : Target) (m k : ℕ) → Contains ts f → Contains ts g → is_before g.key f.key ≡ true
      → p f ≡ Some m → p g ≡ Some k → Clear f m (taken_by r g.group k)
  clear_of_earlier order f g m k i j before e d =
      All-contains (Clear f m) (taken_before r fixed ts p f) (taken_by r g.group k) (spaced_at order f m i e)
      (contains_right fixed (filter_map (taken_of r p) (filter (earlier f) ts)) (taken_by r g.group k)
      (contains_given (taken_of r p) (filter (earlier f) ts) g (taken_by r g.group k) (contains_kept (earlier f) ts g j before) (ap (option_map (taken_by r g.group)) d)))

  pub in_pairs : IsSpacedInOrder r fixed ts p → IsSpacedInPairs r fixed ts p
  in_pairs order = record {
    from_fixed = λ k d l. fixed_for (get_or ts k d) (Contains-get_or ts k d l) (p (get_or ts k d)) refl;
    from_others = λ f g m k i j differ e d. others f g m k i j differ e d (is_before g.key f.key) refl;
  }
    where
      fixed_for : (f : Target) → Contains ts f → (o : Option ℕ) → p f ≡ o → IfSome o (IsSpaced r fixed f.group)
      fixed_for f i None e = tt
      fixed_for f i (Some m) e = λ k d l.
          let t = get_or fixed k d in
          All-contains (Clear f m) (taken_before r fixed ts p f) t (spaced_at order f m i e)
          (contains_left fixed (filter_map (taken_of r p) (filter (earlier f) ts)) t (Contains-get_or fixed k d l))

      others : (f g : Target) (m k : ℕ) → Contains ts f → Contains ts g → same_name f.key.name g.key.name ≡ false → p f ≡ Some m → p g ≡ Some k
          → (b : Bool) → is_before g.key f.key ≡ b → meets (taken_by r f.group m) (taken_by r g.group k) ≡ false
      others f g m k i j differ e d true before = clear_of_earlier order f g m k i j before e d
      others f g m k i j differ e d false before =
          meets_flips (taken_by r f.group m) (taken_by r g.group k)
          ∙ clear_of_earlier order g f k m j i (before_or_after f.key g.key before differ) d e

  pub in_order : IsDistinct same_name (map (λ f. f.key.name) ts) → IsSpacedInPairs r fixed ts p → IsSpacedInOrder r fixed ts p
  in_order own pairs = λ k d l. spaced (get_or ts k d) (Contains-get_or ts k d l) (p (get_or ts k d)) refl
    where
      differ : (f g : Target) → Contains ts f → Contains ts g → is_before g.key f.key ≡ true → (b : Bool) → same_name f.key.name g.key.name ≡ b → b ≡ false
      differ f g i j before false s = refl
      differ f g i j before true s =
          let one = one_of_key same_name same_flips (λ (f : Target). f.key.name) ts f g own i j s in
          absurd (false≢true (sym (before_itself f.key) ∙ ap (λ (h : Target). is_before h.key f.key) one ∙ before))

      other : (f : Target) (m : ℕ) → Contains ts f → p f ≡ Some m → (g : Target) → Contains (filter (earlier f) ts) g → (o : Option ℕ) → p g ≡ o
          → IfSome (option_map (taken_by r g.group) o) (Clear f m)
      other f m i e g j None d = tt
      other f m i e g j (Some k) d =
          let among = contains_all (earlier f) ts g j in
          let before = All-contains (λ g. earlier f g ≡ true) (filter (earlier f) ts) g (filter_passes (earlier f) ts) j in
          pairs.from_others f g m k i among (differ f g i among before (same_name f.key.name g.key.name) refl) e d

      spaced : (f : Target) → Contains ts f → (o : Option ℕ) → p f ≡ o → IfSome o (IsSpaced r (taken_before r fixed ts p f) f.group)
      spaced f i None e = tt
      spaced f i (Some m) e =
          All-append (Clear f m) fixed (filter_map (taken_of r p) (filter (earlier f) ts))
          (subst (λ o. IfSome o (IsSpaced r fixed f.group)) e (All-contains (λ f. IfSome (p f) (IsSpaced r fixed f.group)) ts f pairs.from_fixed i))
          (All-given (taken_of r p) (Clear f m) (filter (earlier f) ts) (λ g j. other f m i e g j (p g) refl))
