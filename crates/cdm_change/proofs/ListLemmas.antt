-- Lists.
use Rattle.std.proofs.Common.{◌≡◌, Bool, true, false, cond, List, [], ◌∷◌, Option, None, Some, refl, sym, ap, ◌∙◌, map, filter, Contains, inl, inr, subst, arith}
use Rattle.std.specs.List.{cons_option, filter_map, flat_map, list_any, take_while}
use Rattle.std.proofs.lemmas.List.Elements.{Contains-append_cases, Contains-append_left, Contains-append_right}
use Rattle.std.proofs.lemmas.List.Sums.{take_while-cons}
use Rattle.std.specs.Prelude.{◌||◌}
use Rattle.std.specs.Option.{IfSome, option_and_then, option_map}
use Rattle.std.specs.Bool.{then_some}
use Rattle.cdm_flight.proofs.Lists.{contains_cases, contains_head, contains_tail}

filter_map-cond : {X Y : Type 0} (h : X → Option Y) (c : Bool) (x : X) (xs : List X)
    → filter_map h (cond c (x ∷ xs) xs) ≡ cond c (cons_option (h x) (filter_map h xs)) (filter_map h xs)
filter_map-cond h true x xs = refl
filter_map-cond h false x xs = refl

passed : {Y : Type 0} (p : Y → Bool) (o : Option Y) (c : Bool) (ys zs : List Y) → IfSome o (λ y. p y ≡ c) → filter p ys ≡ zs
    → filter p (cons_option o ys) ≡ cond c (cons_option o zs) zs
passed {Y} p (Some y) true ys zs e is = ap (λ b. cond b (y ∷ filter p ys) (filter p ys)) e ∙ ap (λ (l : List Y). y ∷ l) is
passed p (Some y) false ys zs e is = ap (λ b. cond b (y ∷ filter p ys) (filter p ys)) e ∙ is
passed p None true ys zs e is = is
passed p None false ys zs e is = is

-- What passes a test of what a list gives is given by the elements that pass the same test.
pub filter-given : {X Y : Type 0} (p : Y → Bool) (q : X → Bool) (h : X → Option Y) → ((x : X) → IfSome (h x) (λ y. p y ≡ q x)) → (xs : List X)
    → filter p (filter_map h xs) ≡ filter_map h (filter q xs)
filter-given p q h same [] = refl
filter-given p q h same (x ∷ xs) =
    passed p (h x) (q x) (filter_map h xs) (filter_map h (filter q xs)) (same x) (filter-given p q h same xs) ∙ sym (filter_map-cond h (q x) x (filter q xs))

-- What a list gives where each element that passes a test gives its value.
pub given_all : {X Y : Type 0} (q : X → Bool) (h : X → Option Y) (f : X → Y) → ((x : X) → q x ≡ true → h x ≡ Some (f x)) → (xs : List X)
    → filter_map h (filter q xs) ≡ map f (filter q xs)
given_all q h f same [] = refl
given_all {X} {Y} q h f same (x ∷ xs) = by (q x) refl (given_all q h f same xs)
  where
    by : (b : Bool) → q x ≡ b → filter_map h (filter q xs) ≡ map f (filter q xs)
        → filter_map h (cond b (x ∷ filter q xs) (filter q xs)) ≡ map f (cond b (x ∷ filter q xs) (filter q xs))
    by true e is = λ i. cons_option (same x e i) (is i)
    by false e is = is

-- And where each such element gives nothing.
pub given_none : {X Y : Type 0} (q : X → Bool) (h : X → Option Y) → ((x : X) → q x ≡ true → h x ≡ None) → (xs : List X) → filter_map h (filter q xs) ≡ []
given_none q h same [] = refl
given_none {X} {Y} q h same (x ∷ xs) = by (q x) refl (given_none q h same xs)
  where
    by : (b : Bool) → q x ≡ b → filter_map h (filter q xs) ≡ [] → filter_map h (cond b (x ∷ filter q xs) (filter q xs)) ≡ []
    by true e is = λ i. cons_option (same x e i) (is i)
    by false e is = is

-- Some element passes where some did before a change that no test sees.
pub list_any-moved : {X : Type 0} (p : X → Bool) (f : X → X) → ((x : X) → p (f x) ≡ p x) → (xs : List X) → list_any p (map f xs) ≡ list_any p xs
list_any-moved p f same [] = refl
list_any-moved p f same (x ∷ xs) = λ i. same x i || list_any-moved p f same xs i

-- The longest front that passes, of what a list gives: an element that passes gives what passes, and one that doesn't gives
-- what doesn't.
front_given : {X : Type 0} (p : X → Bool) (o : Option X) (xs ys : List X) → IfSome o (λ y. p y ≡ true) → take_while p xs ≡ ys
    → take_while p (cons_option o xs) ≡ cons_option o ys
front_given p None xs ys passes is = is
front_given {X} p (Some x) xs ys passes is = take_while-cons p x xs ∙ ap (λ b. cond b (x ∷ take_while p xs) []) passes ∙ ap (λ (l : List X). x ∷ l) is

pub take_while-given : {X : Type 0} (p : X → Bool) (q : X → Bool) (h : X → Option X) (f : X → X) → ((x : X) → p x ≡ true → IfSome (h x) (λ y. q y ≡ true))
    → ((x : X) → p x ≡ false → h x ≡ Some (f x)) → ((x : X) → p x ≡ false → q (f x) ≡ false) → (xs : List X)
    → take_while q (filter_map h xs) ≡ filter_map h (take_while p xs)
take_while-given p q h f passes gives fails [] = refl
take_while-given {X} p q h f passes gives fails (x ∷ xs) = by (p x) refl (take_while-given p q h f passes gives fails xs) ∙ sym (ap (filter_map h) (take_while-cons p x xs))
  where
    by : (b : Bool) → p x ≡ b → take_while q (filter_map h xs) ≡ filter_map h (take_while p xs)
        → take_while q (cons_option (h x) (filter_map h xs)) ≡ filter_map h (cond b (x ∷ take_while p xs) [])
    by true e is = front_given q (h x) (filter_map h xs) (filter_map h (take_while p xs)) (passes x e) is
    by false e is =
        ap (λ (o : Option X). take_while q (cons_option o (filter_map h xs))) (gives x e)
        ∙ take_while-cons q (f x) (filter_map h xs) ∙ ap (λ b. cond b (f x ∷ take_while q (filter_map h xs)) []) (fails x e)

-- What is given by what a list gives: what the list gives so, as far as it passes a test.
given_twice : {Y Z : Type 0} (k : Y → Option Z) (o : Option Y) (p : Option Z) (q : Z → Bool) (ys : List Y) (zs : List Z)
    → option_and_then k o ≡ option_and_then (λ z. then_some (q z) z) p → filter_map k ys ≡ filter q zs
    → filter_map k (cons_option o ys) ≡ filter q (cons_option p zs)
given_twice {Y} {Z} k o p q ys zs e is = first o ∙ ap (λ (x : Option Z). cons_option x (filter_map k ys)) e ∙ ap (cons_option (option_and_then (λ z. then_some (q z) z) p)) is ∙ second p
  where
    first : (o : Option Y) → filter_map k (cons_option o ys) ≡ cons_option (option_and_then k o) (filter_map k ys)
    first None = refl
    first (Some y) = refl

    passing : (b : Bool) (z : Z) → cons_option (then_some b z) (filter q zs) ≡ cond b (z ∷ filter q zs) (filter q zs)
    passing true z = refl
    passing false z = refl

    second : (p : Option Z) → cons_option (option_and_then (λ z. then_some (q z) z) p) (filter q zs) ≡ filter q (cons_option p zs)
    second None = refl
    second (Some z) = passing (q z) z

pub filter_map-given : {X Y Z : Type 0} (h : X → Option Y) (k : Y → Option Z) (l : X → Option Z) (q : Z → Bool)
    → ((x : X) → option_and_then k (h x) ≡ option_and_then (λ z. then_some (q z) z) (l x)) → (xs : List X)
    → filter_map k (filter_map h xs) ≡ filter q (filter_map l xs)
filter_map-given h k l q same [] = refl
filter_map-given h k l q same (x ∷ xs) = given_twice k (h x) (l x) q (filter_map h xs) (filter_map l xs) (same x) (filter_map-given h k l q same xs)

-- What the elements that pass a test give with a change: what all give, as far as it passes a like test, with the change.
pub given_changed : {X Y Z : Type 0} (q : X → Bool) (r : Y → Bool) (h : X → Option Y) (k : X → Option Z) (f : Y → Z)
    → ((x : X) → q x ≡ true → k x ≡ option_map f (h x)) → ((x : X) → IfSome (h x) (λ y. r y ≡ q x)) → (xs : List X)
    → filter_map k (filter q xs) ≡ map f (filter r (filter_map h xs))
given_changed q r h k f same like [] = refl
given_changed {X} {Y} {Z} q r h k f same like (x ∷ xs) = by (q x) refl (h x) refl (like x) (given_changed q r h k f same like xs)
  where
    by : (b : Bool) → q x ≡ b → (o : Option Y) → h x ≡ o → IfSome o (λ y. r y ≡ q x) → filter_map k (filter q xs) ≡ map f (filter r (filter_map h xs))
        → filter_map k (cond b (x ∷ filter q xs) (filter q xs)) ≡ map f (filter r (cons_option o (filter_map h xs)))
    by true e None g l is = λ i. cons_option ((same x e ∙ ap (option_map f) g) i) (is i)
    by true e (Some y) g l is =
        (λ i. cons_option ((same x e ∙ ap (option_map f) g) i) (is i))
        ∙ sym (ap (λ c. map f (cond c (y ∷ filter r (filter_map h xs)) (filter r (filter_map h xs)))) (l ∙ e))
    by false e None g l is = is
    by false e (Some y) g l is = is ∙ sym (ap (λ c. map f (cond c (y ∷ filter r (filter_map h xs)) (filter r (filter_map h xs)))) (l ∙ e))

-- What an element gives is given.
pub contains_given : {X Y : Type 0} (h : X → Option Y) (xs : List X) (x : X) (y : Y) → Contains xs x → h x ≡ Some y → Contains (filter_map h xs) y
contains_given h [] x y i e = absurd (omega (arith, i.1))
contains_given {X} {Y} h (z ∷ zs) x y i e = elim (contains_cases z zs x i) [
  | inl same ↦ subst (λ (o : Option Y). Contains (cons_option o (filter_map h zs)) y) (sym (ap h same ∙ e)) (contains_head y (filter_map h zs))
  | inr j ↦ later (h z) (contains_given h zs x y j e)
]
  where
    later : (o : Option Y) → Contains (filter_map h zs) y → Contains (cons_option o (filter_map h zs)) y
    later None k = k
    later (Some u) k = contains_tail u (filter_map h zs) y k

-- What lists put together have.
pub contains_in_flat : {X Y : Type 0} (f : X → List Y) (xs : List X) (x : X) (y : Y) → Contains xs x → Contains (f x) y → Contains (flat_map f xs) y
contains_in_flat f [] x y i j = absurd (omega (arith, i.1))
contains_in_flat {X} {Y} f (z ∷ zs) x y i j = elim (contains_cases z zs x i) [
  | inl same ↦ Contains-append_left (f z) (flat_map f zs) y (subst (λ (w : X). Contains (f w) y) (sym same) j)
  | inr k ↦ Contains-append_right (f z) (flat_map f zs) y (contains_in_flat f zs x y k j)
]

pub contains_flat : {X Y : Type 0} (f : X → List Y) (xs : List X) (y : Y) → Contains (flat_map f xs) y → (x : X) × Contains xs x × Contains (f x) y
contains_flat f [] y i = absurd (omega (arith, i.1))
contains_flat f (z ∷ zs) y i = elim (Contains-append_cases (f z) (flat_map f zs) y i) [
  | inl j ↦ (z, contains_head z zs, j)
  | inr k ↦ let rest = contains_flat f zs y k in (rest.0, contains_tail z zs rest.0 rest.1, rest.2)
]
