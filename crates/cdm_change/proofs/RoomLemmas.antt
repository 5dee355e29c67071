-- Minutes that are taken on a runway, in a day and in the next one.
use Rattle.std.proofs.Common.{◌≡◌, ℕ, ◌+◌, ◌/◌, ◌<◌, ◌≤◌, ◌==◌, ◌++◌, Bool, false, cond, List, [], ◌∷◌, Option, None, Some, All, Contains, refl, sym, ap, ◌∙◌, arith, filter_map, count_by, add-zero}
use Rattle.std.proofs.lemmas.Grind.{common_steps}
use Rattle.std.proofs.lemmas.Bool.{ne_eqb}
use Rattle.std.proofs.Math.Nat.{add-div_right}
use Rattle.cdm_runway.proofs.CellLemmas.{cells_in_order}
use Rattle.std.proofs.lemmas.Bool.Decides.{nat_tests}
use Rattle.std.proofs.lemmas.List.Elements.{All-append, All-cons, All-head, All-nil, All-tail}
use Rattle.std.proofs.lemmas.List.Sums.{sum_by-append}
use Rattle.std.specs.Prelude.{if◌then◌else◌}
use Rattle.std.specs.List.{cons_option}
use Rattle.cdm_flight.proofs.Lists.{contains_head, contains_tail}
use Rattle.cdm_flight.specs.declared.group.Group.{Group}
use Rattle.cdm_flight.specs.declared.spacing.Spacing.{Spacing}
use Rattle.cdm_flight.specs.Spacing.{occupancy_of}
use Rattle.cdm_runway.specs.Rules.{RunwayRules}
use Rattle.cdm_runway.specs.Room.{IsFree, IsSpaced, held_in_cell, meets, taken_by}
use Rattle.cdm_runway.specs.declared.load.Taken.{Taken}
use Rattle.cdm_change.proofs.RulesLemmas.{IsNextRunway, later-cell}

-- One take-off.

-- It has ended before a minute, and lies in another cell.
pub record IsApart (cell m : ℕ) (t : Taken) : Type 0 where
  pub ended : t.minute + t.occupancy ≤ m
  pub elsewhere : (t.minute / cell == m / cell) ≡ false

-- What a day has of a flight, and what the next day has of it, at a minute of the next day: the same take-off, or one that the
-- next day doesn't know and that is apart from the minute, or none.
abbrev pub Agrees : ℕ → ℕ → Option Taken → Option Taken → Type 0
Agrees cell m None None = Unit {0}
Agrees cell m None (Some u) = ⊥
Agrees cell m (Some t) None = IsApart cell (m + 1440) t
Agrees cell m (Some t) (Some u) = (t.minute ≡ u.minute + 1440) × (t.occupancy ≡ u.occupancy)

-- Lists of them.

-- They take the same room of a minute.
pub record AreAlike (r s : RunwayRules) (m : ℕ) (ts us : List Taken) : Type 0 where
  pub held : held_in_cell r.cell ts (m + 1440) ≡ held_in_cell s.cell us m
  pub spaced : (group : Group) → IsSpaced r ts group (m + 1440) → IsSpaced s us group m
  pub spaced_back : (group : Group) → IsSpaced s us group m → IsSpaced r ts group (m + 1440)

count_by-cons : {X : Type 0} (p : X → Bool) (x : X) (xs : List X) → count_by p (x ∷ xs) ≡ count_by p xs + (if p x then 1 else 0)
count_by-cons p x xs = grind (arith, common_steps)

meets_apart : (m o : ℕ) (t : Taken) → t.minute + t.occupancy ≤ m → meets (record { minute = m; occupancy = o }) t ≡ false
meets_apart m o t h = grind (arith, nat_tests)

meets_later : (m o : ℕ) (t u : Taken) → t.minute ≡ u.minute + 1440 → t.occupancy ≡ u.occupancy
    → meets (record { minute = m + 1440; occupancy = o }) t ≡ meets (record { minute = m; occupancy = o }) u
meets_later m o t u minute occupancy = grind (arith, nat_tests)

eq-added : (a b n : ℕ) → (a + n == b + n) ≡ (a == b)
eq-added a b n = grind (arith, nat_tests)

module _ (r s : RunwayRules) (next : IsNextRunway r s) (m : ℕ) where
  abbrev before : Taken → Bool
  before t = t.minute / r.cell == (m + 1440) / r.cell

  abbrev after : Taken → Bool
  after u = u.minute / s.cell == m / s.cell

  occupied : (group : Group) → occupancy_of s.spacing group ≡ occupancy_of r.spacing group
  occupied group = ap (λ (x : Spacing). occupancy_of x group) next.spacing

  same_cell : (t u : Taken) → t.minute ≡ u.minute + 1440 → before t ≡ after u
  same_cell t u minute =
      (λ i. (ap (λ (n : ℕ). n / r.cell) minute ∙ later-cell r.cell u.minute next.cell_length) i == later-cell r.cell m next.cell_length i)
      ∙ eq-added (u.minute / r.cell) (m / r.cell) (1440 / r.cell)
      ∙ (λ i. u.minute / sym next.cell i == m / sym next.cell i)

  same_meets : (group : Group) (t u : Taken) → t.minute ≡ u.minute + 1440 → t.occupancy ≡ u.occupancy
      → meets (taken_by r group (m + 1440)) t ≡ meets (taken_by s group m) u
  same_meets group t u minute occupancy =
      meets_later m (occupancy_of r.spacing group) t u minute occupancy
      ∙ ap (λ (o : ℕ). meets (record { minute = m; occupancy = o }) u) (sym (occupied group))

  pub none_alike : AreAlike r s m [] []
  none_alike = record {
    held = refl;
    spaced = λ group h. All-nil (λ t. meets (taken_by s group m) t ≡ false);
    spaced_back = λ group h. All-nil (λ t. meets (taken_by r group (m + 1440)) t ≡ false);
  }

  one_alike : (o p : Option Taken) (ts us : List Taken) → Agrees r.cell m o p → AreAlike r s m ts us → AreAlike r s m (cons_option o ts) (cons_option p us)
  one_alike None None ts us agrees alike = alike
  one_alike None (Some u) ts us agrees alike = absurd agrees
  one_alike (Some t) None ts us agrees alike = record {
    held = count_by-cons before t ts ∙ (λ i. count_by before ts + (if agrees.elsewhere i then 1 else 0)) ∙ add-zero (count_by before ts) ∙ alike.held;
    spaced = λ group h. alike.spaced group (All-tail (λ x. meets (taken_by r group (m + 1440)) x ≡ false) t ts h);
    spaced_back = λ group h.
        All-cons (λ x. meets (taken_by r group (m + 1440)) x ≡ false) t ts
        (meets_apart (m + 1440) (occupancy_of r.spacing group) t agrees.ended) (alike.spaced_back group h);
  }
  one_alike (Some t) (Some u) ts us agrees alike = record {
    held = count_by-cons before t ts ∙ (λ i. alike.held i + (if same_cell t u agrees.0 i then 1 else 0)) ∙ sym (count_by-cons after u us);
    spaced = λ group h.
        let P : Taken → Type 0 = λ x. meets (taken_by r group (m + 1440)) x ≡ false in
        All-cons (λ x. meets (taken_by s group m) x ≡ false) u us (sym (same_meets group t u agrees.0 agrees.1) ∙ All-head P t ts h)
        (alike.spaced group (All-tail P t ts h));
    spaced_back = λ group h.
        let P : Taken → Type 0 = λ x. meets (taken_by s group m) x ≡ false in
        All-cons (λ x. meets (taken_by r group (m + 1440)) x ≡ false) t ts (same_meets group t u agrees.0 agrees.1 ∙ All-head P u us h)
        (alike.spaced_back group (All-tail P u us h));
  }

  -- What each flight gives agrees, so all that they give is alike.
  pub given_alike : {X : Type 0} (f g : X → Option Taken) (xs : List X) → ((x : X) → Contains xs x → Agrees r.cell m (f x) (g x))
      → AreAlike r s m (filter_map f xs) (filter_map g xs)
  given_alike f g [] agrees = none_alike
  given_alike f g (x ∷ xs) agrees =
      one_alike (f x) (g x) (filter_map f xs) (filter_map g xs) (agrees x (contains_head x xs))
      (given_alike f g xs (λ y i. agrees y (contains_tail x xs y i)))

  left_part : (P : Taken → Type 0) (xs ys : List Taken) → All P (xs ++ ys) → All P xs
  left_part P [] ys h = All-nil P
  left_part P (x ∷ xs) ys h = All-cons P x xs (All-head P x (xs ++ ys) h) (left_part P xs ys (All-tail P x (xs ++ ys) h))

  right_part : (P : Taken → Type 0) (xs ys : List Taken) → All P (xs ++ ys) → All P ys
  right_part P [] ys h = h
  right_part P (x ∷ xs) ys h = right_part P xs ys (All-tail P x (xs ++ ys) h)

  pub alike_append : (ts us ts' us' : List Taken) → AreAlike r s m ts us → AreAlike r s m ts' us' → AreAlike r s m (ts ++ ts') (us ++ us')
  alike_append ts us ts' us' a b = record {
    held = sum_by-append (λ t. cond (before t) 1 0) ts ts' ∙ (λ i. a.held i + b.held i) ∙ sym (sum_by-append (λ u. cond (after u) 1 0) us us');
    spaced = λ group h.
        let P : Taken → Type 0 = λ x. meets (taken_by r group (m + 1440)) x ≡ false in
        All-append (λ x. meets (taken_by s group m) x ≡ false) us us' (a.spaced group (left_part P ts ts' h)) (b.spaced group (right_part P ts ts' h));
    spaced_back = λ group h.
        let P : Taken → Type 0 = λ x. meets (taken_by s group m) x ≡ false in
        All-append (λ x. meets (taken_by r group (m + 1440)) x ≡ false) ts ts' (a.spaced_back group (left_part P us us' h)) (b.spaced_back group (right_part P us us' h));
  }

  -- Where the same room is taken, a flight may take a minute of the next day where it might.
  module _ (early : m < 1440) (ts us : List Taken) (alike : AreAlike r s m ts us) (group : Group) where
    pub free_next : IsFree r ts group (m + 1440) → IsFree s us group m
    free_next free = record {
      is_open = next.closed m early ∙ free.is_open;
      is_spaced = alike.spaced group free.is_spaced;
      has_room = let cap = next.caps m early in let held = alike.held in let room = free.has_room in omega (arith, cap, held, room);
    }

    pub free_before : IsFree s us group m → IsFree r ts group (m + 1440)
    free_before free = record {
      is_open = sym (next.closed m early) ∙ free.is_open;
      is_spaced = alike.spaced_back group free.is_spaced;
      has_room = let cap = next.caps m early in let held = alike.held in let room = free.has_room in omega (arith, cap, held, room);
    }

-- A take-off of long ago.

-- It lies in an earlier cell.
pub earlier_cell : (c n m : ℕ) → 1 ≤ c → n + c ≤ m → (n / c == m / c) ≡ false
earlier_cell c n m positive far =
    let next : (n + c) / c ≡ n / c + 1 = add-div_right n positive in
    let order : (n + c) / c ≤ m / c = cells_in_order c positive (n + c) m far in
    ne_eqb (n / c) (m / c) (λ e. omega (arith, next, order, e))
