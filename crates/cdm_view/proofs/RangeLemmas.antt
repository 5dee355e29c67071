-- Numbers one after another, and those among them that lie between numbers that pass a test.
use Rattle.std.proofs.Common.{ℕ, suc, zero, ◌≡◌, ◌+◌, ◌-◌, ◌<◌, ◌≤◌, Bool, true, false, cond, List, [], ◌∷◌, ◌++◌, refl, sym, ap, ◌∙◌}
use Rattle.std.proofs.Common.{arith, add-zero, zero-add}
use Rattle.std.proofs.lemmas.{Bool.Decides.nat_tests, Bool.and_left, Bool.and_parts, Bool.and_right, Bool.false_from_ne_true, Bool.leb-true}
use Rattle.std.proofs.lemmas.{List.append-nil, List.flat_map_more, List.Elements.filter-append, List.FromFn.get_or-range_with_len}
use Rattle.std.proofs.lemmas.{List.FromFn.length-range_with_len, List.Sums.sum_by-append, Grind.common_steps}
use Rattle.std.specs.{Prelude.◌&&◌, Prelude.nat_le, Prelude.filter, List.list_any, List.range_with_len, List.count_by, List.Contains}
use Rattle.std.specs.{List.flat_map}
use Rattle.cdm_view.{specs.{Load.is_between, inner.Ends.AreEnds}, proofs.ListLemmas.{any_with, any_without, filter_all, filter_none}}

-- as many numbers, and then as many more
pub range-append : (a m n : ℕ) → range_with_len a (m + n) ≡ range_with_len a m ++ range_with_len (a + m) n
range-append a zero n = rw (zero-add, add-zero) refl
range-append a (suc m) n =
    let more : suc m + n ≡ suc (m + n) = omega arith in
    let next : a + 1 + m ≡ a + suc m = omega arith in
    ap (range_with_len a) more ∙ ap (λ l. a ∷ l) (range-append (a + 1) m n ∙ ap (λ b. range_with_len (a + 1) m ++ range_with_len b n) next)

-- the same of a list of another length, with the number at which it parts
range_parts : (a m b n l : ℕ) → b ≡ a + m → l ≡ m + n → range_with_len a l ≡ range_with_len a m ++ range_with_len b n
range_parts a m b n l p q =
    ap (range_with_len a) q ∙ (range-append a m n ∙ ap (λ c. range_with_len a m ++ range_with_len c n) (sym p))

-- a number counts if it passes
pub count_more : (test : ℕ → Bool) (a n b : ℕ) → b ≡ a + n
    → count_by test (range_with_len a (n + 1)) ≡ count_by test (range_with_len a n) + cond (test b) 1 0
count_more test a n b e =
    ap (count_by test) (range_parts a n b 1 (n + 1) e refl)
    ∙ sum_by-append (λ k. cond (test k) 1 0) (range_with_len a n) (b ∷ [])
    ∙ ap (λ m. count_by test (range_with_len a n) + m) (zero-add (cond (test b) 1 0))

-- what is told of numbers, one after another
pub numbers_more : (told : ℕ → List ℕ) (start before after : List ℕ) (from number : ℕ) → from ≤ number
    → before ≡ start ++ flat_map told (range_with_len from (number - from)) → after ≡ before ++ told number
    → after ≡ start ++ flat_map told (range_with_len from (number + 1 - from))
numbers_more told start before after from number order so_far next =
    let parts = range_parts from (number - from) number 1 (number + 1 - from) (omega arith) (omega arith) in
    let one_more = flat_map_more told start (range_with_len from (number - from)) number in
    cc

-- the numbers among them
pub range-contains : (n k : ℕ) → k < n → Contains (range_with_len 0 n) k
range-contains n k below = (k, rw length-range_with_len below, get_or-range_with_len 0 n k k below ∙ zero-add k)

pub range-bounds : (a n k : ℕ) → Contains (range_with_len a n) k → (a ≤ k) × (k < a + n)
range-bounds a n k (i, within, at) = grind (arith, common_steps, length-range_with_len, get_or-range_with_len)

-- a number is between two that pass
is_among : (test : ℕ → Bool) (n first k last : ℕ) → first ≤ k → k ≤ last → last < n → test first ≡ true
    → test last ≡ true → is_between test (range_with_len 0 n) k ≡ true
is_among test n first k last begun ended below p q =
    let numbers = range_with_len 0 n in
    let to_first : (nat_le first k && test first) ≡ true = grind (arith, nat_tests) in
    let to_last : (nat_le k last && test last) ≡ true = grind (arith, nat_tests) in
    let one = any_with (λ j. nat_le j k && test j) numbers first (range-contains n first (omega arith)) to_first in
    let other = any_with (λ j. nat_le k j && test j) numbers last (range-contains n last below) to_last in
    rw (one, other) refl

-- a number that passes is between some that do
pub between_itself : (test : ℕ → Bool) (n k : ℕ) → k < n → test k ≡ true → is_between test (range_with_len 0 n) k ≡ true
between_itself test n k below passes = is_among test n k k k (omega arith) (omega arith) below passes passes

-- the numbers that pass and those between them are one after another
module _ (test : ℕ → Bool) (n from to : ℕ) (ends : AreEnds test n from to) where
  inside : (k : ℕ) → from ≤ k → k < to → is_between test (range_with_len 0 n) k ≡ true
  inside k after before =
      is_among test n from k (to - 1) after (omega arith) (omega (arith, ends.within)) (ends.first (omega arith))
      (ends.last (omega arith))

  none_there : (order : ℕ → Bool) → ((j : ℕ) → order j ≡ true → from ≤ j → j < to → ⊥)
      → list_any (λ j. order j && test j) (range_with_len 0 n) ≡ false
  none_there order apart = any_without (λ j. order j && test j) (range_with_len 0 n) (λ j i.
      false_from_ne_true (order j && test j) (λ e.
      let parts = and_parts (order j) (test j) e in
      let bounds = range-bounds 0 n j i in
      let there = ends.around j (omega arith) parts.1 in
      apart j parts.0 there.0 there.1))

  before_all : (k : ℕ) → k < from → is_between test (range_with_len 0 n) k ≡ false
  before_all k before =
      let none = none_there (λ j. nat_le j k) (λ j h begun ended. let order = leb-true j k h in omega arith) in
      and_left _ _ none

  after_all : (k : ℕ) → to ≤ k → is_between test (range_with_len 0 n) k ≡ false
  after_all k after =
      let none = none_there (λ j. nat_le k j) (λ j h begun ended. let order = leb-true k j h in omega arith) in
      and_right _ _ none

  pub between_is_range : filter (is_between test (range_with_len 0 n)) (range_with_len 0 n) ≡ range_with_len from (to - from)
  between_is_range =
      let passes = is_between test (range_with_len 0 n) in
      let order = ends.order in
      let bound = ends.within in
      let whole : range_with_len 0 n ≡ range_with_len 0 from ++ (range_with_len from (to - from) ++ range_with_len to (n - to)) =
      range_parts 0 from from (n - from) n (omega arith) (omega arith)
      ∙ ap (λ l. range_with_len 0 from ++ l)
      (range_parts from (to - from) to (n - to) (n - from) (omega arith) (omega arith)) in
      let one = filter_none passes (range_with_len 0 from) (λ k i.
      let bounds = range-bounds 0 from k i in
      before_all k (omega arith)) in
      let two = filter_all passes (range_with_len from (to - from)) (λ k i.
      let bounds = range-bounds from (to - from) k i in
      inside k bounds.0 (omega (arith, ends.order))) in
      let three = filter_none passes (range_with_len to (n - to)) (λ k i.
      after_all k (range-bounds to (n - to) k i).0) in
      let kept = filter-append passes (range_with_len from (to - from)) (range_with_len to (n - to)) in
      ap (filter passes) whole
      ∙ (filter-append passes (range_with_len 0 from) (range_with_len from (to - from) ++ range_with_len to (n - to))
      ∙ ((λ i. one i ++ (kept ∙ (λ i. two i ++ three i)) i) ∙ append-nil (range_with_len from (to - from))))
