-- Slots that stand by take-off: those at some minutes are one part of them.
use Rattle.std.proofs.Common.{◌≡◌, ℕ, ◌+◌, ◌-◌, ◌*◌, ◌/◌, ◌==◌, ◌≤◌, max, min, Bool, true, false, List, [], ◌∷◌, ◌++◌, length, take, drop}
use Rattle.std.proofs.Common.{filter, get_or, ltb, map, refl, sym, subst, ◌∙◌, ap, arith}
use Rattle.std.proofs.lemmas.{Nat.div-add-mod', Nat.div_below, Nat.le-div, Grind.common_steps}
use Rattle.std.proofs.lemmas.Bool.{and_from, false_from_ne_true, le-leb, leb-true, lt-ltb, ltb-false, ltb-true, Decides.nat_tests}
use Rattle.std.proofs.lemmas.List.{append-nil, get_or-drop, get_or-take, length-drop, length-take, take-append-drop, take_rest}
use Rattle.std.proofs.lemmas.List.{Sums.prefix_len_passes, Sums.prefix_len_stops, Kept.IsNonDecreasingBy-filter}
use Rattle.std.proofs.lemmas.List.Elements.{All-contains, All-take, filter-append, filter_agree}
use Rattle.std.proofs.lemmas.List.Sorted.{IsNonDecreasingBy-drop, IsNonDecreasingBy-from_all_adjacent}
use Rattle.std.specs.{List.All, List.prefix_len, List.Sorted.IsPartitionPoint, List.Sorted.IsSorted, Ordering.is_lt, Prelude.nat_le}
use Rattle.std.specs.{Prelude.nat_lt}
use Rattle.cdm_time.specs.Windows.{window_has}
use Rattle.cdm_sequence.specs.{Slots.slot_cmp, declared.slot.Slot.Slot}
use Rattle.cdm_view.specs.{Turns.turn_in, Reasons.Waiting, Reasons.held_at, Reasons.is_earlier, Reasons.met_at}
use Rattle.cdm_view.specs.inner.Earlier.{IsAhead, IsByTakeOff, met_among, not_passed, taken_slots}
use Rattle.cdm_view.proofs.ListLemmas.{filter_all, filter_none}
use Rattle.cdm_flight.specs.{Spacing.occupancy_of, declared.group.Group.Group, declared.key.Key.Key}
use Rattle.cdm_runway.specs.Room.{meets, taken_by}
use Rattle.cdm_plan.specs.Day.{DayRecord}

-- The order.

no_later : (a b : Slot) → is_lt (slot_cmp b a) ≡ false → a.ttot ≤ b.ttot
no_later a b h = grind (arith, nat_tests)

-- slots by take-off and name stand by take-off
pub by_take_off : (slots : List Slot) → IsSorted slot_cmp slots → IsByTakeOff slots
by_take_off slots sorted =
    IsNonDecreasingBy-from_all_adjacent (λ (s : Slot). s.ttot) slots (λ k d l. no_later (get_or slots k d) (get_or slots (k + 1) d) (sorted k d (omega arith) l))

-- The part at some minutes.

-- what passes a test only if it passes another is found among what passes that one
pub filter_among : {X : Type 0} (p q : X → Bool) (xs : List X) → ((x : X) → p x ≡ true → q x ≡ true)
    → filter p (filter q xs) ≡ filter p xs
filter_among p q [] within = refl
filter_among p q (x ∷ xs) within = let rest = filter_among p q xs within in grind (arith, within x)

module _ {X : Type 0} (P Q : X → Type 0) (xs : List X) (i : ℕ) (point : IsPartitionPoint P Q xs i) where
  all_before : All P (take i xs)
  all_before k d l =
      let long = length-take i xs in
      rw (get_or-take i xs k d (omega arith)) (point.0 k d (omega arith) (omega arith))

  all_from : All Q (drop i xs)
  all_from k d l =
      let long = length-drop i xs in
      rw (get_or-drop i xs k d) (point.1 (i + k) d (omega arith) (omega arith))

-- the number of an element is below another, or isn't
abbrev Below : {X : Type 0} → (X → ℕ) → ℕ → X → Type 0
Below n t x = ltb (n x) t ≡ true

abbrev NotBelow : {X : Type 0} → (X → ℕ) → ℕ → X → Type 0
NotBelow n t x = ltb (n x) t ≡ false

module _ {X : Type 0} (n : X → ℕ) (from to : ℕ) where
  abbrev is_in : X → Bool
  is_in x = window_has from to (n x)

  before_it : (x : X) → Below n from x → is_in x ≡ false
  before_it x h = grind (arith, nat_tests)

  behind_it : (x : X) → NotBelow n to x → is_in x ≡ false
  behind_it x h = grind (arith, nat_tests)

  within_it : (x : X) → NotBelow n from x → Below n to x → is_in x ≡ true
  within_it x h k = grind (arith, nat_tests)

  split : (k : ℕ) (ys : List X) → filter is_in ys ≡ filter is_in (take k ys) ++ filter is_in (drop k ys)
  split k ys = ap (filter is_in) (sym (take-append-drop k ys)) ∙ filter-append is_in (take k ys) (drop k ys)

  -- those with a number of a window are the part from the first that isn't below it to the first that isn't in it
  window_part : (i j : ℕ) (xs : List X) → IsPartitionPoint (Below n from) (NotBelow n from) xs i
      → IsPartitionPoint (Below n to) (NotBelow n to) (drop i xs) j → take j (drop i xs) ≡ filter is_in xs
  window_part i j xs first last =
      let rest = drop i xs in
      let before = all_before (Below n from) (NotBelow n from) xs i first in
      let from_it = All-take (NotBelow n from) j rest (all_from (Below n from) (NotBelow n from) xs i first) in
      let to_end = all_before (Below n to) (NotBelow n to) rest j last in
      let behind = all_from (Below n to) (NotBelow n to) rest j last in
      let none : filter is_in (take i xs) ≡ [] =
      filter_none is_in (take i xs) (λ x c. before_it x (All-contains (Below n from) (take i xs) x before c)) in
      let all : filter is_in (take j rest) ≡ take j rest =
      filter_all is_in (take j rest) (λ x c.
      within_it x (All-contains (NotBelow n from) (take j rest) x from_it c) (All-contains (Below n to) (take j rest) x to_end c)) in
      let end : filter is_in (drop j rest) ≡ [] =
      filter_none is_in (drop j rest) (λ x c. behind_it x (All-contains (NotBelow n to) (drop j rest) x behind c)) in
      sym (split i xs ∙ rw none (split j rest ∙ rw (all, end) (append-nil (take j rest))))

-- as it is read of a list that is named three times
pub part_is : {X : Type 0} (n : X → ℕ) (from to i j : ℕ) (xs ys zs : List X) → xs ≡ zs → ys ≡ zs
    → IsPartitionPoint (Below n from) (NotBelow n from) xs i
    → IsPartitionPoint (Below n to) (NotBelow n to) (take (length ys - i) (drop i ys)) j
    → take j (take (length ys - i) (drop i ys)) ≡ filter (λ x. window_has from to (n x)) zs
part_is {X} n from to i j xs ys zs same other first last =
    let rest = take_rest ys i in
    let begin = subst (λ (l : List X). IsPartitionPoint (Below n from) (NotBelow n from) l i) (same ∙ sym other) first in
    let end = subst (λ (l : List X). IsPartitionPoint (Below n to) (NotBelow n to) l j) rest last in
    ap (take j) rest ∙ (window_part n from to i j ys begin end ∙ ap (filter (λ x. window_has from to (n x))) other)

-- The minutes.

-- two flights can meet only if the other takes off less than the longest occupancy before the minute, or while the one occupies the runway
pub meets_near : (m t own other longest : ℕ) → other ≤ longest → nat_lt (max m t) (min (m + own) (t + other)) ≡ true
    → window_has (m - longest) (m + own) t ≡ true
meets_near m t own other longest short h = grind (arith, common_steps, ltb-true, and_from, le-leb, lt-ltb)

-- the minutes of a cell are those from its first one on, as many as it is long
pub in_cell : (c m t : ℕ) → 1 ≤ c → window_has (m / c * c) (m / c * c + c) t ≡ (t / c == m / c)
in_cell c m t positive =
    let parts = div-add-mod' t c in
    let from = le-div (m / c) t c positive in
    let to = div_below t c (m / c + 1) positive in
    grind (arith, nat_tests, from, to)

module _ (w : Waiting) (m : ℕ) where
  -- so the flights that a flight would meet are among those near the minute
  pub near_part : (from to longest : ℕ) → ((g : Group) → occupancy_of w.rules.spacing g ≤ longest) → from ≡ m - longest
      → to ≡ m + occupancy_of w.rules.spacing w.flight.group
      → met_among w m (filter (λ s. window_has from to s.ttot) w.earlier) ≡ met_at w m
  near_part from to longest covers first last = grind (arith, common_steps, filter_among, meets_near)

  -- and the slots in the minute's cell are those at its minutes
  pub cell_part : (c n : ℕ) → 1 ≤ c → c ≡ w.rules.cell → n ≡ m → filter (λ s. window_has (n / c * c) (n / c * c + c) s.ttot) w.earlier ≡ held_at w m
  cell_part c n positive same at = grind (arith, common_steps, filter_agree, in_cell)

-- The first slots, one after another.

module _ {X : Type 0} (p q : X → Bool) (xs : List X) where
  abbrev parted : filter q xs ≡ filter q (take (prefix_len p xs) xs) ++ filter q (drop (prefix_len p xs) xs)
  parted = ap (filter q) (sym (take-append-drop (prefix_len p xs) xs)) ∙ filter-append q (take (prefix_len p xs) xs) (drop (prefix_len p xs) xs)

  first_pass : All (λ x. p x ≡ true) (take (prefix_len p xs) xs)
  first_pass k d l = grind (arith, common_steps, length-take, get_or-take, prefix_len_passes)

  -- where a test fails for what passes another, the first that pass that one can be left out
  kept_left : ((x : X) → p x ≡ true → q x ≡ false) → filter q (drop (prefix_len p xs) xs) ≡ filter q xs
  kept_left apart =
      let first = take (prefix_len p xs) xs in
      let none : filter q first ≡ [] = filter_none q first (λ x c. apart x (All-contains (λ y. p y ≡ true) first x first_pass c)) in
      sym (parted ∙ ap (λ l. l ++ filter q (drop (prefix_len p xs) xs)) none)

  -- and where it fails for all behind them, only they are kept
  kept_first : All (λ x. q x ≡ false) (drop (prefix_len p xs) xs) → filter q (take (prefix_len p xs) xs) ≡ filter q xs
  kept_first fails =
      let rest = drop (prefix_len p xs) xs in
      let none : filter q rest ≡ [] = filter_none q rest (λ x c. All-contains (λ y. q y ≡ false) rest x fails c) in
      sym (parted ∙ ap (λ l. filter q (take (prefix_len p xs) xs) ++ l) none ∙ append-nil (filter q (take (prefix_len p xs) xs)))

-- a flight that has left the runway by a minute meets none that takes off at it or later
apart_passed : (m k t own other : ℕ) → m ≤ k → nat_le (t + other) m ≡ true → nat_lt (max k t) (min (k + own) (t + other)) ≡ false
apart_passed m k t own other later passed = grind (arith, common_steps, leb-true, false_from_ne_true, ltb-true)

-- nor does one that takes off when the other has left it
apart_behind : (m t own other end : ℕ) → end ≡ m + own → end ≤ t → nat_lt (max m t) (min (m + own) (t + other)) ≡ false
apart_behind m t own other end same behind =
    false_from_ne_true _ (λ met. absurd (omega (arith, same, behind, ltb-true (max m t) (min (m + own) (t + other)) met)))

module _ (w : Waiting) (m : ℕ) (slots : List Slot) where
  -- the slots ahead are left when those that are passed are not
  pub ahead_left : IsAhead w m slots → IsAhead w m (not_passed w m slots)
  ahead_left a = grind (arith, common_steps, IsNonDecreasingBy-drop, kept_left, apart_passed)

  -- as it is read of minutes and slots that have two names
  pub ahead_step : (n : ℕ) (rest : List Slot) → n ≡ m → rest ≡ not_passed w n slots → IsAhead w m slots → IsAhead w n rest
  ahead_step n rest same left a = subst (λ k. IsAhead w k rest) (sym same) (subst (IsAhead w m) (sym (left ∙ ap (λ k. not_passed w k slots) same)) (ahead_left a))

  -- and are ahead a minute later
  pub ahead_next : IsAhead w m slots → IsAhead w (m + 1) slots
  ahead_next a = record { in_order = a.in_order; met = λ k later. a.met k (omega (arith, later)) }

  -- the flight meets none behind the first that takes off when it has left the runway
  pub met_before : (end : ℕ) → end ≡ m + occupancy_of w.rules.spacing w.flight.group → IsByTakeOff slots
      → met_among w m (take (prefix_len (λ s. ltb s.ttot end) slots) slots) ≡ met_among w m slots
  met_before end same order =
      let test = λ (s : Slot). ltb s.ttot end in
      let n = prefix_len test slots in
      kept_first test (λ (s : Slot). meets (taken_by w.rules w.flight.group m) (taken_by w.rules s.group s.ttot)) slots (λ k d l.
      let long = length-drop n slots in
      let stops = ltb-false (get_or slots n d).ttot end (prefix_len_stops test slots d (omega (arith, l, long))) in
      let behind : end ≤ (get_or slots (n + k) d).ttot = omega (arith, stops, order n (n + k) d (omega arith) (omega (arith, l, long))) in
      rw (get_or-drop n slots k d) (apart_behind m (get_or slots (n + k) d).ttot (occupancy_of w.rules.spacing w.flight.group)
      (occupancy_of w.rules.spacing (get_or slots (n + k) d).group) end same behind))

-- The slots that are taken when a flight's turn comes.

module _ (d : DayRecord) (key : Key) where
  -- they are found by the keys that stand with them
  pub taken_earlier : (slots : List Slot) → taken_slots key (map (turn_in d) slots) ≡ filter (is_earlier d key) slots
  taken_earlier [] = refl
  taken_earlier (s ∷ slots) = let rest = taken_earlier slots in grind (arith, common_steps)

  -- and stand by take-off
  pub taken_by_take_off : (slots : List Slot) → IsSorted slot_cmp slots → IsByTakeOff (filter (is_earlier d key) slots)
  taken_by_take_off slots sorted = IsNonDecreasingBy-filter (λ (s : Slot). s.ttot) _ _ (by_take_off slots sorted)
