-- Lists and choices: what is among what elements give, and what a filter keeps.
use Rattle.std.proofs.Common.{◌≡◌, Bool, true, false, get_or, List, [], ◌∷◌, Option, Some, None, filter, refl, sym, ◌∙◌, ap, subst, inl}
use Rattle.std.proofs.Common.{inr, arith}
use Rattle.std.proofs.lemmas.{Option.same_Some, List.Elements.Contains-append_cases, List.Elements.Contains-append_left}
use Rattle.std.proofs.lemmas.{List.Elements.Contains-append_right, List.Elements.Contains-get_or, List.Folds.list_any_none}
use Rattle.cdm_plan.proofs.ListWords.{Contains, cons_option, contains_cases, contains_head, contains_tail, filter_map, flat_map, list_any}
use Rattle.cdm_plan.proofs.ListWords.{list_any_at, option_map}

pub option_map_some : {X Y : Type 0} (f : X → Y) (o : Option X) (y : Y) → option_map f o ≡ Some y
    → (x : X) × (o ≡ Some x) × (f x ≡ y)
option_map_some f None y h = cc
option_map_some f (Some x) y h = (x, refl, same_Some (f x) y h)

-- what all pass a test of is left as it is
pub filter_all : {X : Type 0} (p : X → Bool) (xs : List X) → ((x : X) → Contains xs x → p x ≡ true) → filter p xs ≡ xs
filter_all p [] passes = refl
filter_all p (x ∷ xs) passes =
    rw (passes x (contains_head x xs), filter_all p xs (λ y i. passes y (contains_tail x xs y i))) refl

-- and of what none passes nothing is left
pub filter_none : {X : Type 0} (p : X → Bool) (xs : List X) → ((x : X) → Contains xs x → p x ≡ false) → filter p xs ≡ []
filter_none p [] fails = refl
filter_none p (x ∷ xs) fails =
    rw (fails x (contains_head x xs)) (filter_none p xs (λ y i. fails y (contains_tail x xs y i)))

-- a test finds an element that passes, and none where none does
pub any_with : {X : Type 0} (p : X → Bool) (xs : List X) (x : X) → Contains xs x → p x ≡ true → list_any p xs ≡ true
any_with p xs x (k, l, e) h = list_any_at p xs k x l (ap p e ∙ h)

pub any_without : {X : Type 0} (p : X → Bool) (xs : List X) → ((x : X) → Contains xs x → p x ≡ false)
    → list_any p xs ≡ false
any_without p xs fails = list_any_none p xs (λ k d l. fails (get_or xs k d) (Contains-get_or xs k d l))

-- what an element gives is given
pub contains_given : {X Y : Type 0} (h : X → Option Y) (xs : List X) (x : X) (y : Y) → Contains xs x → h x ≡ Some y
    → Contains (filter_map h xs) y
contains_given h [] x y i e = absurd (omega (arith, i.1))
contains_given {X} {Y} h (z ∷ zs) x y i e = elim (contains_cases z zs x i) [
  | inl same ↦ subst (λ (o : Option Y). Contains (cons_option o (filter_map h zs)) y) (sym (ap h same ∙ e)) (contains_head y (filter_map h zs))
  | inr j ↦ later (h z) (contains_given h zs x y j e)
]
  where
    later : (o : Option Y) → Contains (filter_map h zs) y → Contains (cons_option o (filter_map h zs)) y
    later None k = k
    later (Some u) k = contains_tail u (filter_map h zs) y k

-- what a list has, the lists put together have
pub contains_in_flat : {X Y : Type 0} (f : X → List Y) (xs : List X) (x : X) (y : Y) → Contains xs x → Contains (f x) y
    → Contains (flat_map f xs) y
contains_in_flat f [] x y i j = absurd (omega (arith, i.1))
contains_in_flat {X} {Y} f (z ∷ zs) x y i j = elim (contains_cases z zs x i) [
  | inl same ↦ Contains-append_left (f z) (flat_map f zs) y (subst (λ (u : X). Contains (f u) y) (sym same) j)
  | inr k ↦ Contains-append_right (f z) (flat_map f zs) y (contains_in_flat f zs x y k j)
]

-- what lists put together have, one of them has
pub contains_flat : {X Y : Type 0} (f : X → List Y) (xs : List X) (y : Y) → Contains (flat_map f xs) y
    → (x : X) × Contains xs x × Contains (f x) y
contains_flat f [] y i = absurd (omega (arith, i.1))
contains_flat f (x ∷ xs) y i = elim (Contains-append_cases (f x) (flat_map f xs) y i) [
  | inl j ↦ (x, contains_head x xs, j)
  | inr j ↦ let rest = contains_flat f xs y j in (rest.0, contains_tail x xs rest.0 rest.1, rest.2)
]
