-- What intervals say of places.
use Rattle.std.specs.Prelude.{◌≡◌, ℕ, ◌<◌, ◌≤◌, nat_le, max, List, [], ◌∷◌, map, if◌then◌else◌}
use Rattle.std.specs.List.{range_with_len}
use Rattle.cdm_time.specs.Windows.{window_has}
use Rattle.cdm_runway.specs.declared.intervals.Interval.{Interval}

-- the value of a place: that of the last interval that has it, else the value of the rest
abbrev pub value_at : {V : Type 0} → List (Interval V) → ℕ → V → V
value_at [] k rest = rest
value_at (i ∷ is) k rest = value_at is k (if window_has i.from i.to k then i.value else rest)

-- the values of the first places
abbrev pub values_of : {V : Type 0} → ℕ → V → List (Interval V) → List V
values_of places rest is = map (λ k. value_at is k rest) (range_with_len 0 places)

-- each interval has a place, and begins at or after the end of the one before
abbrev pub AreInOrder : {V : Type 0} → ℕ → List (Interval V) → Type 0
AreInOrder end [] = Unit {0}
AreInOrder end (i ∷ is) = (end ≤ i.from) × (i.from < i.to) × AreInOrder i.to is

-- where the last interval ends
abbrev pub end_of : {V : Type 0} → ℕ → List (Interval V) → ℕ
end_of end [] = end
end_of end (i ∷ is) = end_of i.to is

-- sorted intervals of the first places, of which no two share a place
pub record AreOfRow {V : Type 0} (places : ℕ) (is : List (Interval V)) : Type 0 where
  pub in_order : AreInOrder 0 is
  pub within : end_of 0 is ≤ places

-- the places of an interval have its value, and the others theirs
pub record IsPushed {V : Type 0} (old : List (Interval V)) (next : Interval V) (new : List (Interval V)) : Type 0 where
  pub order : AreInOrder 0 new
  pub end : end_of 0 new ≤ max (end_of 0 old) next.to
  pub values : (k : ℕ) (rest : V) → value_at new k rest ≡ (if window_has next.from next.to k then next.value else value_at old k rest)

-- no interval ends after a place
abbrev pub NoneAfter : {V : Type 0} → List (Interval V) → ℕ → Type 0
NoneAfter {V} is place = (k : ℕ) (rest : V) → place ≤ k → value_at is k rest ≡ rest

-- the first interval that ends after a place: it has its value at its places, and none of them that at those before
pub record IsNext {V : Type 0} (end : ℕ) (is : List (Interval V)) (place : ℕ) (next : Interval V) : Type 0 where
  pub after : place < next.to
  pub within : next.to ≤ end_of end is
  pub some : next.from < next.to
  pub values : (k : ℕ) (rest : V) → place ≤ k → k < next.to → value_at is k rest ≡ (if nat_le next.from k then next.value else rest)
