-- Values that nest little, whose numbers are counts.
use Rattle.std.{proofs.Common.{ℕ, suc, ◌≤◌, List, [], ◌∷◌, ◌++◌, arith, decimal, map, Option, None, Some}, specs.Prelude.flat_map}
use Rattle.std.specs.List.{AllByRecursion}
use Rattle.json.specs.{Json.{Json, null, number, string}, Tree.{depth, items_depth, members_depth}}
use Rattle.cdm_row.specs.Json.{array_of, items_of, members_of, object_of, or_null}
use Rattle.cdm_lines.proofs.LineFeeds.{HasClean, ItemsClean, MembersClean, decimal_none}

-- a value that nests so deep at most, without a line feed in its numbers
pub record Small (n : ℕ) (j : Json) : Type 0 where
  pub shallow : depth j ≤ n
  pub clean : HasClean j

pub small_null : (n : ℕ) → Small n null
small_null n = record { shallow = omega arith; clean = tt }

pub small_string : (n : ℕ) (s : List ℕ) → Small n (string s)
small_string n s = record { shallow = omega arith; clean = tt }

pub small_decimal : (n count : ℕ) → Small n (number (decimal count))
small_decimal n count = record { shallow = omega arith; clean = decimal_none count }

pub small_or_null : {X : Type 0} (n : ℕ) (f : X → Json) → ((x : X) → Small n (f x)) → (o : Option X) → Small n (or_null f o)
small_or_null n f each None = small_null n
small_or_null n f each (Some x) = each x

-- Members.

abbrev pub AreSmall : ℕ → List (List ℕ × Json) → Type 0
AreSmall n members = AllByRecursion (λ m. Small n m.1) members

members_within : (n : ℕ) (members : List (List ℕ × Json)) → AreSmall n members → members_depth (members_of members) ≤ n
members_within n [] each = omega arith
members_within n (m ∷ members) each = omega (arith, each.0.shallow, members_within n members each.1)

members_clean : (n : ℕ) (members : List (List ℕ × Json)) → AreSmall n members → MembersClean (members_of members)
members_clean n [] each = tt
members_clean n (m ∷ members) each = (each.0.clean, members_clean n members each.1)

pub small_object : (n : ℕ) (members : List (List ℕ × Json)) → AreSmall n members → Small (suc n) (object_of members)
small_object n members each = record { shallow = omega (arith, members_within n members each); clean = members_clean n members each }

pub small-append : (n : ℕ) (a b : List (List ℕ × Json)) → AreSmall n a → AreSmall n b → AreSmall n (a ++ b)
small-append n [] b x y = y
small-append n (m ∷ a) b x y = (x.0, small-append n a b x.1 y)

pub small-flat_map : {X : Type 0} (n : ℕ) (f : X → List (List ℕ × Json)) → ((x : X) → AreSmall n (f x)) → (xs : List X) → AreSmall n (flat_map f xs)
small-flat_map n f each [] = tt
small-flat_map n f each (x ∷ xs) = small-append n (f x) (flat_map f xs) (each x) (small-flat_map n f each xs)

-- Arrays.

items_within : {X : Type 0} (n : ℕ) (f : X → Json) → ((x : X) → Small n (f x)) → (xs : List X) → items_depth (items_of (map f xs)) ≤ n
items_within n f each [] = omega arith
items_within n f each (x ∷ xs) = omega (arith, (each x).shallow, items_within n f each xs)

items_clean : {X : Type 0} (n : ℕ) (f : X → Json) → ((x : X) → Small n (f x)) → (xs : List X) → ItemsClean (items_of (map f xs))
items_clean n f each [] = tt
items_clean n f each (x ∷ xs) = ((each x).clean, items_clean n f each xs)

pub small_array : {X : Type 0} (n : ℕ) (f : X → Json) → ((x : X) → Small n (f x)) → (xs : List X) → Small (suc n) (array_of (map f xs))
small_array n f each xs = record { shallow = omega (arith, items_within n f each xs); clean = items_clean n f each xs }

-- a deeper bound
pub small_more : (n m : ℕ) (j : Json) → n ≤ m → Small n j → Small m j
small_more n m j order small = record { shallow = omega (arith, small.shallow); clean = small.clean }
