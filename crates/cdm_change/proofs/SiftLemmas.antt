-- Lists that give lists, put together.
use Rattle.std.proofs.Common.{◌≡◌, Bool, true, false, cond, List, [], ◌∷◌, Option, None, Some, refl, ap, ◌∙◌, map, filter, filter_map}
use Rattle.std.specs.List.{cons_option}
use Rattle.std.specs.Option.{option_and_then, option_map}
use Rattle.cdm_flight.proofs.Lists.{filter_map-filter, filter_map-map, if_so}

one_mapped : {Y Z : Type 0} (k : Y → Z) (o : Option Y) (ys : List Y) (zs : List Z) → map k ys ≡ zs → map k (cons_option o ys) ≡ cons_option (option_map k o) zs
one_mapped k None ys zs is = is
one_mapped {Y} {Z} k (Some y) ys zs is = ap (λ (l : List Z). k y ∷ l) is

-- What a list gives, each with a change.
pub map-given : {X Y Z : Type 0} (k : Y → Z) (h : X → Option Y) (xs : List X) → map k (filter_map h xs) ≡ filter_map (λ x. option_map k (h x)) xs
map-given k h [] = refl
map-given k h (x ∷ xs) = one_mapped k (h x) (filter_map h xs) (filter_map (λ x. option_map k (h x)) xs) (map-given k h xs)

-- what is given by what passes a test
abbrev pub passing : {Y Z : Type 0} → (Y → Bool) → (Y → Option Z) → Option Y → Option Z
passing p k o = option_and_then (λ y. if_so (p y) (k y)) o

one_passed : {Y Z : Type 0} (p : Y → Bool) (k : Y → Option Z) (o : Option Y) (ys : List Y) (zs : List Z) → filter_map k (filter p ys) ≡ zs
    → filter_map k (filter p (cons_option o ys)) ≡ cons_option (passing p k o) zs
one_passed p k None ys zs is = is
one_passed {Y} {Z} p k (Some y) ys zs is = by (p y)
  where
    by : (b : Bool) → filter_map k (cond b (y ∷ filter p ys) (filter p ys)) ≡ cons_option (if_so b (k y)) zs
    by true = ap (cons_option (k y)) is
    by false = is

-- What is given by what passes a test of what a list gives.
pub passed-given : {X Y Z : Type 0} (p : Y → Bool) (k : Y → Option Z) (h : X → Option Y) (xs : List X)
    → filter_map k (filter p (filter_map h xs)) ≡ filter_map (λ x. passing p k (h x)) xs
passed-given p k h [] = refl
passed-given p k h (x ∷ xs) = one_passed p k (h x) (filter_map h xs) (filter_map (λ x. passing p k (h x)) xs) (passed-given p k h xs)

-- What is given by the changed elements that pass a test.
pub sifted-given : {X Y Z : Type 0} (s : X → Bool) (f : X → Y) (h : Y → Option Z) (xs : List X)
    → filter_map h (map f (filter s xs)) ≡ filter_map (λ x. if_so (s x) (h (f x))) xs
sifted-given s f h xs = filter_map-map h f (filter s xs) ∙ filter_map-filter (λ x. h (f x)) s xs
